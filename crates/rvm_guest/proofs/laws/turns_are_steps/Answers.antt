use Rattle.rvm_guest.proofs.Turns.{turns_are}
use Rattle.rvm_guest.proofs.laws.turns_are_steps.Goals as goal

pub returns : goal.returns
returns c = λ order n h g lt. turns_are order n h g lt
