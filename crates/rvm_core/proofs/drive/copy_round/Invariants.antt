use Rattle.rvm_core.specs.Worlds.{world_of}
use Rattle.rvm_core.proofs.FirstRound.{Rounding}
use Rattle.rvm_core.proofs.drive.copy_round.Given as goal

abbrev pub invariant-loop-pages : goal.invariant-loop-pages
invariant-loop-pages g l = Rounding l.from (world_of l.initial.world) (world_of l.world) l.pages
