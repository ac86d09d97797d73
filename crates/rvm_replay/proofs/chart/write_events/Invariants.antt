use Rattle.std.proofs.Common.{length}
use Rattle.rvm_replay.proofs.Charting.{Drawn}
use Rattle.rvm_replay.proofs.chart.write_events.Given as goal

abbrev pub invariant-loop-piece : goal.invariant-loop-piece
invariant-loop-piece g l = Drawn (g.O.Write.contents l.fn.output) (g.O.Write.contents l.output) l.order l.left l.drawing

abbrev pub decreases-loop-piece : goal.decreases-loop-piece
decreases-loop-piece g l = length l.left
