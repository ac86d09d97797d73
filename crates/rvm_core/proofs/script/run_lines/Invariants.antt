use Rattle.std.proofs.Common.{◌+◌, ◌≤◌, length}
use Rattle.rvm_board.specs.Guest.{Guest}
use Rattle.rvm_protocol.specs.Shown.{Shown}
use Rattle.rvm_protocol.specs.Told.{Told}
use Rattle.rvm_debug.specs.Words.{lines}
use Rattle.rvm_core.specs.Worlds.{world_of}
use Rattle.rvm_core.specs.Runs.{standing}
use Rattle.rvm_core.proofs.Running.{Lines}
use Rattle.rvm_core.proofs.script.run_lines.Given as goal

-- the lines done so far, and those that are left, are all
abbrev pub invariant-loop-rest : goal.invariant-loop-rest
invariant-loop-rest g l = record {
  count : l.number + length l.rest ≤ length l.script;
  lines : (t : Told Guest) → Shown (world_of l.fn.world).hosts t
      → Lines (lines l.script) (lines l.rest) (l.number + 1) (standing (world_of l.fn.world) t) (world_of l.world)
      (g.W.Write.contents l.fn.writer) (g.W.Write.contents l.writer);
}

abbrev pub decreases-loop-rest : goal.decreases-loop-rest
decreases-loop-rest g l = length l.rest
