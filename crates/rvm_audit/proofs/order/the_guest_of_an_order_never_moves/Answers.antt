use Rattle.rvm_audit.proofs.Two.{world_run}
use Rattle.rvm_audit.proofs.order.the_guest_of_an_order_never_moves.Goals as goal

pub returns : goal.returns
returns c = world_run
