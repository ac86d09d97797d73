use Rattle.std.proofs.Common.{◌≡◌, ◌++◌, length}
use Rattle.rvm_audit.proofs.placed.Order.spelled.Given as goal

abbrev pub invariant-loop-event : goal.invariant-loop-event
invariant-loop-event l = l.events.items ++ l.left ≡ l.self

abbrev pub decreases-loop-event : goal.decreases-loop-event
decreases-loop-event l = length l.left
