use Rattle.std.proofs.Common.{length}
use Rattle.rvm_hart.proofs.Reserved.{clear_keeps}
use Rattle.rvm_hart.proofs.bus.Bus.clear.Goals as goal

pub invariant_of-self : goal.invariant_of-self
invariant_of-self g c = clear_keeps _ (length c.self.inside.reservations) c.clear.new.self c.clear.ensures
