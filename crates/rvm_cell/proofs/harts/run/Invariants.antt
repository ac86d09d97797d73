use Rattle.std.proofs.Common.{◌-◌, ◌≤◌}
use Rattle.rvm_cell.proofs.Calls.{HasCome}
use Rattle.rvm_cell.proofs.harts.run.Given as goal

abbrev pub invariant-loop-turn : goal.invariant-loop-turn
invariant-loop-turn g l = record {
  come : HasCome (l.fn.pair.at_a, l.fn.pair.at_b) (l.pair.at_a, l.pair.at_b)
      (g.W.Write.contents l.fn.writer) (g.W.Write.contents l.writer) l.harts l.turn;
  within : l.turn ≤ l.steps;
}

abbrev pub decreases-loop-turn : goal.decreases-loop-turn
decreases-loop-turn g l = l.steps - l.turn
