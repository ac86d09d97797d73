use Rattle.std.proofs.Common.{◌+◌, ◌≤◌, length}
use Rattle.rvm_debug.specs.Words.{lines}
use Rattle.rvm_link.proofs.Naming.{Reading}
use Rattle.rvm_link.proofs.peers.addresses_in.Given as goal

-- the lines so far name these hosts
abbrev pub invariant-loop-rest : goal.invariant-loop-rest
invariant-loop-rest l = record {
  count : l.number + length l.rest ≤ length l.text;
  lines : Reading (lines l.text) (lines l.rest) l.number l.addresses.items;
}

abbrev pub decreases-loop-rest : goal.decreases-loop-rest
decreases-loop-rest l = length l.rest
