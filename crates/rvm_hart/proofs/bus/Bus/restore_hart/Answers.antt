use Rattle.std.proofs.Common.{◌≡◌, true, length, subst, sym}
use Rattle.rvm_hart.specs.Machine.{BusState}
use Rattle.rvm_hart.specs.Fields.{is_in_ram}
use Rattle.rvm_hart.proofs.Reserved.{set_keeps}
use Rattle.rvm_hart.proofs.bus.Bus.restore_hart.Goals as goal

pub invariant_of-self : goal.invariant_of-self
invariant_of-self g c =
    let Word : BusState → Type 0 = λ b. is_in_ram (length b.shared.bytes) c.args.reserved ≡ true in
    set_keeps _ c.args.hart c.args.reserved c.self.inside.reservations c.restore.new.self c.restore.ensures c.self.invariant
    (subst Word (sym c.self.view_is) c.requires.in_ram)
