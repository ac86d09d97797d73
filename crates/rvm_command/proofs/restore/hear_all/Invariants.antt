use Rattle.std.proofs.Common.{◌≡◌, length}
use Rattle.rvm_host.specs.Hosts.{host_of}
use Rattle.rvm_command.specs.Restoring.{IsTarget}
use Rattle.rvm_command.specs.Saved.{IsLeft}
use Rattle.rvm_command.specs.Streams.{between}
use Rattle.rvm_command.proofs.restore.hear_all.Given as goal

-- the reader stands between two frames, and the bytes that are left make what all bytes make
abbrev pub invariant-loop-left : goal.invariant-loop-left
invariant-loop-left g l = record {
  between : l.reader ≡ between l.reader.version;
  target : IsTarget l.host;
  left : IsLeft l.bytes l.reader.version l.left (host_of l.host);
}

abbrev pub decreases-loop-left : goal.decreases-loop-left
decreases-loop-left g l = length l.left
