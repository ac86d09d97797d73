use Rattle.rvm_audit.proofs.Law.{is_world_run}
use Rattle.rvm_audit.proofs.laws.the_guest_of_an_order_never_moves.Goals as goal

pub returns : goal.returns
returns c = is_world_run
