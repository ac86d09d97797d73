use Rattle.rvm_hart.proofs.Reserved.{store_keeps}
use Rattle.rvm_hart.proofs.bus.Bus.store_half.Goals as goal

pub invariant_of-self : goal.invariant_of-self
invariant_of-self g c =
    store_keeps 2 c.args.hart _ c.args.value _ _ _ c.self.inside.reservations c.stored.new.self c.store16.ensures.bytes c.stored.ensures c.self.invariant
