use Rattle.std.proofs.Common.{◌≡◌, take}
use Rattle.rvm_audit.specs.Outlines.{outlines_in}
use Rattle.rvm_audit.proofs.cuts.references_to.Given as goal

abbrev pub invariant-loop-host : goal.invariant-loop-host
invariant-loop-host l = outlines_in l.all.items ≡ take l.host l.outlines
