use Rattle.rvm_journal.proofs.Replayed.{Turned}
use Rattle.rvm_journal.proofs.replay.do_turns.Given as goal

-- the turns that were taken, and those that are left, are all
abbrev pub invariant-loop-left : goal.invariant-loop-left
invariant-loop-left g l = Turned l.fn.run.first l.fn.run.harts l.fn.run.count l.left l.turn (g.R.Recorder.recording l.fn.recorder) (g.R.Recorder.recording l.recorder)

abbrev pub decreases-loop-left : goal.decreases-loop-left
decreases-loop-left g l = l.left
