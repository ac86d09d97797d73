use Rattle.std.proofs.Common.{◌≡◌}
use Rattle.rvm_replay.specs.Findings.{cuts_of}
use Rattle.rvm_replay.proofs.cuts.cuts_of.Given as goal

-- the hosts so far
abbrev pub invariant-loop-host : goal.invariant-loop-host
invariant-loop-host l = l.cuts.items ≡ cuts_of l.files l.host
