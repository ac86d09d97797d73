use Rattle.rvm_guest.proofs.Staying.{stays}
use Rattle.rvm_guest.proofs.laws.each_event_leaves_a_valid_guest.Goals as goal

pub returns : goal.returns
returns c = stays
