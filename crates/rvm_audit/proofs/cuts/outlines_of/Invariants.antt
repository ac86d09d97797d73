use Rattle.std.proofs.Common.{take}
use Rattle.rvm_audit.specs.Audits.{histories_of}
use Rattle.rvm_audit.specs.Outlines.{AreOutlinesOf}
use Rattle.rvm_audit.proofs.cuts.outlines_of.Given as goal

abbrev pub invariant-loop-host : goal.invariant-loop-host
invariant-loop-host g l = AreOutlinesOf (take l.host (histories_of l.journals)) l.outlines.items
