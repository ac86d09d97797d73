use Rattle.std.proofs.Common.{◌≡◌, take}
use Rattle.std.specs.Io.KnownBytes.{Appends}
use Rattle.rvm_replay.specs.Counts.{counts_of, entries_of_all, host_lines}
use Rattle.rvm_replay.proofs.summary.write_hosts.Given as goal

-- the lines of the hosts so far were written, and the sum is what their journals add up to
abbrev pub invariant-loop-host : goal.invariant-loop-host
invariant-loop-host g l =
    Appends (g.O.Write.contents l.fn.output) (g.O.Write.contents l.output) (host_lines 0 (take l.host l.all))
    × (l.sum ≡ counts_of (entries_of_all (take l.host l.all)))
