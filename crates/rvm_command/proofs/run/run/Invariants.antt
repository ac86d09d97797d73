use Rattle.std.proofs.Common.{[], ◌≡◌, ◌-◌, ◌≤◌, length, drop}
use Rattle.rvm_command.specs.Run.{run_from}
use Rattle.rvm_command.proofs.Runs.{Progress}
use Rattle.rvm_command.proofs.run.run.Given as goal

-- the events so far and those of the rest of the run are all
abbrev pub invariant-loop-turn : goal.invariant-loop-turn
invariant-loop-turn g l =
    record {
      next : l.next ≤ length l.input;
      turn : l.turn ≤ l.steps;
      ended : (run_from (l.steps - l.turn) l.turn (drop l.next l.input) l.guest.guest).ended ≡ (run_from l.steps 0 l.input l.fn.guest.guest).ended;
      events : Progress (run_from l.steps 0 l.input l.fn.guest.guest).events (run_from (l.steps - l.turn) l.turn (drop l.next l.input) l.guest.guest).events l.fn.guest l.guest [] l.buffer (g.W.Write.contents l.fn.writer) (g.W.Write.contents l.writer);
    }

abbrev pub decreases-loop-turn : goal.decreases-loop-turn
decreases-loop-turn g l = l.steps - l.turn
