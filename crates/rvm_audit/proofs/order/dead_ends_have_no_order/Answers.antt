use Rattle.std.proofs.Common.{get_or, ◌∷◌, []}
use Rattle.rvm_audit.proofs.Greatest.{no_order}
use Rattle.rvm_audit.specs.ListOrders.{both}
use Rattle.rvm_audit.proofs.order.dead_ends_have_no_order.Goals as goal

pub returns : goal.returns
returns c = λ a b i j events dead order. no_order (both a b) (λ x. get_or (i ∷ j ∷ []) x 0) events dead order
