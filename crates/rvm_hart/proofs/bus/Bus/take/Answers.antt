use Rattle.std.proofs.Common.{None, refl}
use Rattle.rvm_hart.proofs.Reserved.{set_keeps}
use Rattle.rvm_hart.proofs.bus.Bus.take.Goals as goal

pub invariant_of-self : goal.invariant_of-self
invariant_of-self g c =
    set_keeps _ c.args.hart None c.self.inside.reservations c.take.new.self c.take.ensures.words c.self.invariant refl
