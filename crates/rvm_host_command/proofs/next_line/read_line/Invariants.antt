use Rattle.std.proofs.Common.{◌≡◌, length}
use Rattle.rvm_host_command.proofs.LinesRead.{AreRead}
use Rattle.rvm_host_command.proofs.next_line.read_line.Given as goal

-- the line has a byte for each turn, and no line feed
abbrev pub invariant-loop-byte : goal.invariant-loop-byte
invariant-loop-byte g l = record {
  count : length l.line.items ≡ l._byte;
  read : AreRead (g.I.Read.remaining l.fn.lines) (g.I.Read.remaining l.lines) l.line.items;
}
