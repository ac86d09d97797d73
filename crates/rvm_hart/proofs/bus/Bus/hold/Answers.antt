use Rattle.std.proofs.Common.{◌≡◌, Some, true, length, subst, sym}
use Rattle.rvm_hart.specs.Machine.{BusState}
use Rattle.rvm_hart.specs.Fields.{is_ram_word}
use Rattle.rvm_hart.proofs.Reserved.{set_keeps}
use Rattle.rvm_hart.proofs.bus.Bus.hold.Goals as goal

pub invariant_of-self : goal.invariant_of-self
invariant_of-self g c =
    let Word : BusState → Type 0 = λ b. is_ram_word (length b.shared.bytes) c.args.address ≡ true in
    set_keeps _ c.args.hart (Some c.args.address) c.self.inside.reservations c.hold.new.self c.hold.ensures c.self.invariant
    (subst Word (sym c.self.view_is) c.requires.word)
