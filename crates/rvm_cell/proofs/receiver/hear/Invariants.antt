use Rattle.std.proofs.Common.{◌≡◌, ◌<◌, false, []}
use Rattle.rvm_frame.specs.Reader.{at_start}
use Rattle.rvm_cell.specs.Heard.{Hears}
use Rattle.rvm_cell.proofs.receiver.hear.Given as goal

abbrev pub invariant-loop-read : goal.invariant-loop-read
invariant-loop-read g l = record {
  same : l.hearing ≡ record l.fn.hearing { heard = l.hearing.heard; last = l.hearing.last };
  few : l.idle < 1000;
  between : l.stream.is_inside ≡ false → l.stream.reader.bytes ≡ [];
  heard : Hears l.fn.hearing.from l.fn.hearing.to (g.I.Link.remaining l.fn.link) (g.I.Link.remaining l.link) at_start [] l.hearing.heard l.stream.reader;
}
