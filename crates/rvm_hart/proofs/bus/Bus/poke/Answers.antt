use Rattle.rvm_hart.proofs.Reserved.{poke_keeps}
use Rattle.rvm_hart.proofs.bus.Bus.poke.Goals as goal

pub invariant_of-self-2 : goal.invariant_of-self-2
invariant_of-self-2 g c =
    poke_keeps _ c.args.address c.args.bytes.now _ _ c.self.inside.reservations c.poke_each.new.reservations c.in_ok-write_bytes.ensures.bytes c.poke_each.ensures c.self.invariant
