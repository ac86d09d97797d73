use Rattle.std.proofs.Common.{◌≡◌, length}
use Rattle.rvm_replay.specs.Charts.{after_all, start}
use Rattle.rvm_replay.proofs.chart.last_of.Given as goal

abbrev pub invariant-loop-piece : goal.invariant-loop-piece
invariant-loop-piece l = after_all l.drawing l.left ≡ after_all start l.order

abbrev pub decreases-loop-piece : goal.decreases-loop-piece
decreases-loop-piece l = length l.left
