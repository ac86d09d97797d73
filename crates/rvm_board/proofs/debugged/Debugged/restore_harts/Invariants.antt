use Rattle.rvm_board.proofs.Restoring.{SoFar}
use Rattle.rvm_board.proofs.debugged.Debugged.restore_harts.Given as goal

abbrev pub invariant-loop-i : goal.invariant-loop-i
invariant-loop-i g l = SoFar l.harts l.i l.self l.fn.self
