use Rattle.std.proofs.Common.{◌-◌, ◌≤◌}
use Rattle.rvm_command.proofs.Searching.{Searched}
use Rattle.rvm_command.proofs.find_fault.find_fault.Given as goal

-- what is known of the turns so far
abbrev pub invariant-loop-made : goal.invariant-loop-made
invariant-loop-made g l = record {
  within : l.made ≤ l.count;
  searched : Searched l.turn l.fn.board l.board l.made l.traps;
}

abbrev pub decreases-loop-made : goal.decreases-loop-made
decreases-loop-made g l = l.count - l.made
