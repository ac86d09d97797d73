use Rattle.std.proofs.Common.{◌≡◌, ℕ, false, List, [], ◌++◌, length, None, Ok}
use Rattle.rvm_frame.specs.Verdict.{verdict}
use Rattle.rvm_cell.specs.Heard.{AreHeard}
use Rattle.rvm_cell.proofs.receiver.take.Given as goal

abbrev pub invariant-loop-rest : goal.invariant-loop-rest
invariant-loop-rest g l = record {
  same : l.hearing ≡ record l.fn.hearing { heard = l.hearing.heard; last = l.hearing.last };
  waits : verdict l.stream.reader.version l.stream.reader.bytes ≡ Ok None;
  between : l.stream.is_inside ≡ false → l.stream.reader.bytes ≡ [];
  heard : (read : List ℕ) × (l.fn.piece ≡ read ++ l.rest)
      × AreHeard l.fn.hearing.from l.fn.hearing.to l.fn.stream.reader read l.fn.hearing.heard l.hearing.heard l.stream.reader;
}

abbrev pub decreases-loop-rest : goal.decreases-loop-rest
decreases-loop-rest g l = length l.rest
