use Rattle.std.proofs.Common.{◌≡◌, drop}
use Rattle.rvm_text.specs.Tokens.{lexemes_of}
use Rattle.rvm_asm.specs.Grammar.{operands_at, more_operands_at}
use Rattle.rvm_asm.proofs.grammar.check_operands.Given as goal

-- what is left has the shapes that are left, if all have theirs
abbrev pub invariant-loop-shape : goal.invariant-loop-shape
invariant-loop-shape l =
    more_operands_at (drop l.shape-index l.others) (lexemes_of l.rest) ≡ operands_at l.shapes (lexemes_of l.tokens)
