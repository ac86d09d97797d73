use Rattle.std.proofs.Common.{◌-◌}
use Rattle.rvm_recorder.proofs.Tellings.{SoFar}
use Rattle.rvm_recorder.proofs.closing.tell.Given as goal

abbrev pub invariant-loop-told : goal.invariant-loop-told
invariant-loop-told l = SoFar l.item l.fn.left l.left l.until l.told

abbrev pub decreases-loop-told : goal.decreases-loop-told
decreases-loop-told l = l.len - l.told
