use Rattle.std.proofs.Common.{◌+◌, refl, add-one, ap, ◌∙◌}
use Rattle.rvm_res.specs.Reservations.{poked}
use Rattle.rvm_hart.specs.Pokes.{poked_each}
use Rattle.rvm_hart.proofs.bus.poke_each.Goals as goal

pub loop-i-init : goal.loop-i-init
unfolding poked_each
loop-i-init c = refl

pub loop-i-preserved : goal.loop-i-preserved
unfolding poked_each
loop-i-preserved c = rw add-one (c.poked.ensures ∙ ap (poked (c.args.address + c.loop-i.i)) c.loop-i.invariant)
