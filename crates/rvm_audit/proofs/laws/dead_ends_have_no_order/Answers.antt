use Rattle.rvm_audit.proofs.Greatest.{no_order}
use Rattle.rvm_audit.proofs.laws.dead_ends_have_no_order.Goals as goal

pub returns : goal.returns
returns c = no_order
