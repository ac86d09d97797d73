use Rattle.std.proofs.Common.{◌≡◌, drop}
use Rattle.rvm_mem.specs.Pages.{bits}
use Rattle.rvm_mem.proofs.word.word_of.Given as goal

abbrev pub invariant-loop-i : goal.invariant-loop-i
invariant-loop-i l = l.word ≡ bits (drop l.i l.flags)
