use Rattle.rvm_precopy.proofs.Scans.{Scanning}
use Rattle.rvm_precopy.proofs.rounds.Rounds.find.Given as goal

abbrev pub invariant-loop-block : goal.invariant-loop-block
invariant-loop-block g l = Scanning (g.L.DirtyLog.log l.log) l.self l.block l.peeked
