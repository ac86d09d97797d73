use Rattle.std.proofs.Common.{◌≡◌, ◌-◌, drop, length}
use Rattle.rvm_recorder.specs.Items.{all_of}
use Rattle.rvm_recorder.proofs.left.Left.next.Given as goal

abbrev pub invariant-loop-self : goal.invariant-loop-self
invariant-loop-self l = drop l.self-inside.skipped (all_of (drop l.self-inside.passed l.self-inside.items.now)) ≡ l.fn.self

abbrev pub decreases-loop-self : goal.decreases-loop-self
decreases-loop-self l = length l.self-inside.items.now - l.self-inside.passed
