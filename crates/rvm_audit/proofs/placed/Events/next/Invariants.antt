use Rattle.std.proofs.Common.{◌≡◌, length}
use Rattle.rvm_audit.specs.Placed.{events_behind}
use Rattle.rvm_audit.proofs.placed.Events.next.Given as goal

abbrev pub invariant-loop-placed : goal.invariant-loop-placed
invariant-loop-placed l = events_behind l.self-inside.items.now l.self-inside.skipped ≡ l.fn.self

abbrev pub decreases-loop-placed : goal.decreases-loop-placed
decreases-loop-placed l = length l.self-inside.items.now
