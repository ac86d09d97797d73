use Rattle.std.proofs.Common.{◌≡◌, ℕ, false, List, ◌++◌, length, None, Ok}
use Rattle.rvm_frame.specs.Verdict.{verdict}
use Rattle.rvm_station.specs.Hearing.{AreTold}
use Rattle.rvm_station.proofs.host_hearing.take.Given as goal

abbrev pub invariant-loop-rest : goal.invariant-loop-rest
invariant-loop-rest g l = record {
  waits : verdict l.reader.version l.reader.bytes ≡ Ok None;
  unfailed : l.reader.failed ≡ false;
  told : (read : List ℕ) × (l.fn.piece ≡ read ++ l.rest) × AreTold g.L.Hosting.gave l.from l.station.id
      (g.A.Access.asked l.fn.access) (g.A.Access.asked l.access) l.fn.reader read l.reader;
}

abbrev pub decreases-loop-rest : goal.decreases-loop-rest
decreases-loop-rest g l = length l.rest
