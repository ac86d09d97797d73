use Rattle.rvm_journal.proofs.Reading.{Reading}
use Rattle.rvm_journal.proofs.reader.JournalReader.replay.Given as goal

-- the lines that were read were done
abbrev pub invariant-loop-before : goal.invariant-loop-before
invariant-loop-before g l =
    Reading l.fn.hosts l.fn.host l.fn.self l.fn.most l.left (g.I.Read.remaining l.input) l.read l.digest.bytes l.before
    (g.R.Recorder.recording l.fn.recorder) (g.R.Recorder.recording l.recorder)
