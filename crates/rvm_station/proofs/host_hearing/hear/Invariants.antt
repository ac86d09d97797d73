use Rattle.std.proofs.Common.{◌≤◌, length}
use Rattle.rvm_frame.specs.Reader.{at_start}
use Rattle.rvm_station.specs.Hearing.{AreRead}
use Rattle.rvm_station.proofs.host_hearing.hear.Given as goal

abbrev pub invariant-loop-record : goal.invariant-loop-record
invariant-loop-record g l = record {
  size : 65535 ≤ length l.buffer;
  read : AreRead g.L.Hosting.gave l.from l.station.id (g.A.Access.asked l.fn.access) (g.A.Access.asked l.access)
      (g.I.Read.remaining l.fn.input) (g.I.Read.remaining l.input) at_start l.reader;
}
