use Rattle.std.proofs.Common.{◌-◌, ◌≤◌}
use Rattle.rvm_station.proofs.turns.make_turns.Given as goal

abbrev pub invariant-loop-made : goal.invariant-loop-made
invariant-loop-made g l = l.made ≤ l.count

abbrev pub decreases-loop-made : goal.decreases-loop-made
decreases-loop-made g l = l.count - l.made
