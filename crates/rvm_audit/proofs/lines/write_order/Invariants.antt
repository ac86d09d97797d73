use Rattle.std.proofs.Common.{length}
use Rattle.rvm_audit.proofs.OrderLines.{Lines}
use Rattle.rvm_audit.proofs.lines.write_order.Given as goal

abbrev pub invariant-loop-event : goal.invariant-loop-event
invariant-loop-event g l = Lines l.hosts (g.W.Write.contents l.fn.writer) (g.W.Write.contents l.writer) l.order l.left

abbrev pub decreases-loop-event : goal.decreases-loop-event
decreases-loop-event g l = length l.left
