use Rattle.std.proofs.Common.{ℕ, ◌<◌, ◌≤◌}
use Rattle.rvm_hart.specs.Straight.{IsQuiet}
use Rattle.rvm_board.specs.Board.{machine_at}
use Rattle.rvm_board.proofs.rounds.quiet_turns.Given as goal

-- the harts so far are quiet
abbrev pub invariant-loop-hart : goal.invariant-loop-hart
invariant-loop-hart g l =
    record {
      within : l.quiet ≤ l.count;
      quiet : (k : ℕ) → k < l.hart → IsQuiet l.quiet (machine_at k (record { harts = l.harts; shared = l.bus.shared }));
    }
