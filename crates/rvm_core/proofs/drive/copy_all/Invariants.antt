use Rattle.std.proofs.Common.{ℕ}
use Rattle.rvm_protocol.specs.Commands.{Copy}
use Rattle.rvm_protocol.specs.World.{At}
use Rattle.rvm_core.specs.Worlds.{world_of}
use Rattle.rvm_core.proofs.Drives.{Going}
use Rattle.rvm_core.proofs.drive.copy_all.Given as goal

abbrev pub invariant-loop : goal.invariant-loop
invariant-loop g l = Going (λ (p : ℕ). At l.from Copy) (world_of l.initial.world) (world_of l.world) l.counter l.count
