use Rattle.rvm_source.proofs.Sets.{Gathers}
use Rattle.rvm_source.proofs.source.set_of.Given as goal

abbrev pub invariant-loop-number : goal.invariant-loop-number
invariant-loop-number l = Gathers l.numbers l.pages l.number-index l.set
