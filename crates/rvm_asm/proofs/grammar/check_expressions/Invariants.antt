use Rattle.std.proofs.Common.{◌≡◌}
use Rattle.rvm_text.specs.Tokens.{lexemes_of}
use Rattle.rvm_asm.specs.Grammar.{expressions_at}
use Rattle.rvm_asm.specs.Reading.{parts}
use Rattle.rvm_asm.specs.LineViews.{seen_parts, tokens_left}
use Rattle.rvm_asm.proofs.grammar.check_expressions.Given as goal

-- the parts that are left are expressions, if all are
abbrev pub invariant-loop-left : goal.invariant-loop-left
invariant-loop-left l = expressions_at (seen_parts l.left) ≡ expressions_at (parts (lexemes_of l.tokens))

abbrev pub decreases-loop-left : goal.decreases-loop-left
decreases-loop-left l = tokens_left l.left
