use Rattle.std.proofs.Common.{◌≡◌, ◌-◌, ◌≤◌, length, drop}
use Rattle.rvm_command.proofs.Watching.{Turned}
use Rattle.rvm_command.proofs.watched.run_watched.Given as goal

-- what is known of the turns so far
abbrev pub invariant-loop-turn : goal.invariant-loop-turn
invariant-loop-turn g l =
    record {
      next : l.next ≤ length l.input;
      turn : l.turn ≤ l.asked.steps;
      sized : length l.counts ≡ length l.fn.counts;
      turned : Turned l.asked.seed l.asked.stop_at_fault l.asked.traced l.input l.fn.guest l.guest l.turn l.end (drop l.next l.input) l.traps l.counts l.buffer (g.W.Write.contents l.fn.writer) (g.W.Write.contents l.writer) (g.T.Write.contents l.fn.trace) (g.T.Write.contents l.trace);
    }

abbrev pub decreases-loop-turn : goal.decreases-loop-turn
decreases-loop-turn g l = l.asked.steps - l.turn
