use Rattle.std.proofs.Common.{◌≡◌, length}
use Rattle.rvm_debug.specs.Words.{words}
use Rattle.rvm_debug.proofs.words.behind_blanks.Given as goal

-- what is left has the same words
abbrev pub invariant-loop-rest : goal.invariant-loop-rest
invariant-loop-rest l = words l.rest ≡ words l.bytes

abbrev pub decreases-loop-rest : goal.decreases-loop-rest
decreases-loop-rest l = length l.rest
