use Rattle.std.proofs.Common.{ℕ, ◌+◌}
use Rattle.rvm_protocol.specs.World.{Deliver}
use Rattle.rvm_core.specs.Worlds.{world_of}
use Rattle.rvm_core.proofs.Drives.{Going}
use Rattle.rvm_core.proofs.drive.deliver_all.Given as goal

abbrev pub invariant-loop-place : goal.invariant-loop-place
invariant-loop-place g l =
    Going (λ (p : ℕ). Deliver (l.first + p)) (world_of l.initial.world) (world_of l.world) l.place l.count
