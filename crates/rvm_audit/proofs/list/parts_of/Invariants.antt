use Rattle.std.proofs.Common.{◌≡◌, length}
use Rattle.rvm_audit.specs.Audits.{ArePartsOf, histories_of}
use Rattle.rvm_audit.proofs.list.parts_of.Given as goal

abbrev pub invariant-loop-host : goal.invariant-loop-host
invariant-loop-host g l = record {
  long : length l.parts.items ≡ l.host;
  each : ArePartsOf (histories_of l.journals) l.parts.items;
}
