use Rattle.rvm_guest.specs.TheGuest.{board}
use Rattle.rvm_core.specs.Worlds.{meant, said, world_of}
use Rattle.rvm_core.proofs.Places.{Placing}
use Rattle.rvm_core.proofs.Runs.{Running}
use Rattle.rvm_core.proofs.run.run_world.Given as goal

abbrev pub invariant-loop-event : goal.invariant-loop-event
invariant-loop-event g l = record {
  runs : Running board meant said (world_of l.initial.world) (world_of l.world) l.events l.event-index l.replies.items;
  places : Placing (world_of l.initial.world) (world_of l.world) l.events l.event-index l.replies.items;
}
