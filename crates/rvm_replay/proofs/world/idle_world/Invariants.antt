use Rattle.std.proofs.Common.{◌≡◌, ℕ, Some, length}
use Rattle.std.specs.Prelude.{slice_get}
use Rattle.rvm_replay.specs.Audited.{IsIdle}
use Rattle.rvm_replay.proofs.world.idle_world.Given as goal

-- the hosts so far do nothing
abbrev pub invariant-loop-host : goal.invariant-loop-host
invariant-loop-host g l = record {
  each : (x : ℕ) (kept : _) → slice_get l.all.items x ≡ Some kept → IsIdle l.hosts x (g.K.Kept.recording kept);
  long : length l.all.items ≡ l.host;
}
