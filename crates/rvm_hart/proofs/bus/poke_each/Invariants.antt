use Rattle.std.proofs.Common.{◌≡◌}
use Rattle.rvm_hart.specs.Pokes.{poked_each}
use Rattle.rvm_hart.proofs.bus.poke_each.Given as goal

abbrev pub invariant-loop-i : goal.invariant-loop-i
invariant-loop-i l = l.reservations ≡ poked_each l.address l.i l.fn.reservations
