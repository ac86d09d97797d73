use Rattle.std.proofs.Common.{◌≡◌, length}
use Rattle.rvm_audit.specs.OutlineAudits.{ArePartsOf}
use Rattle.rvm_audit.specs.Outlines.{outlines_in}
use Rattle.rvm_audit.proofs.outline.parts_of.Given as goal

abbrev pub invariant-loop-host : goal.invariant-loop-host
invariant-loop-host l = record {
  long : length l.parts.items ≡ l.host;
  each : ArePartsOf (outlines_in l.outlines) l.parts.items;
}
