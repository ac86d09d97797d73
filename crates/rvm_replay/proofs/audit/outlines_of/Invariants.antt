use Rattle.std.proofs.Common.{take}
use Rattle.rvm_audit.specs.Outlines.{AreOutlinesOf, outlines_in}
use Rattle.rvm_replay.specs.Findings.{histories_in}
use Rattle.rvm_replay.proofs.audit.outlines_of.Given as goal

-- the outlines so far are those of the first hosts
abbrev pub invariant-loop-host : goal.invariant-loop-host
invariant-loop-host g l = AreOutlinesOf (histories_in (take l.host l.all)) (outlines_in l.outlines.items)
