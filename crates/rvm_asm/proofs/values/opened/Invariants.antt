use Rattle.std.proofs.Common.{length}
use Rattle.rvm_text.specs.Tokens.{lexemes_of}
use Rattle.rvm_asm.proofs.Expressions.{Opened}
use Rattle.rvm_asm.proofs.values.opened.Given as goal

abbrev pub invariant-loop-inner : goal.invariant-loop-inner
invariant-loop-inner l = Opened (lexemes_of l.tokens) l.so_far.0 (lexemes_of l.so_far.1.now)

abbrev pub decreases-loop-inner : goal.decreases-loop-inner
decreases-loop-inner l = length l.so_far.1.now
