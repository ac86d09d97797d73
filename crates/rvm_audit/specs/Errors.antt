-- When an audit refuses, and the number of each refusal.
use Rattle.rvm_recorder.specs.History.{History}
use Rattle.rvm_refusal.specs.declared.refusal.Refusal.{Refusal}
use Rattle.rvm_refusal.specs.declared.refusal.Refusal.TheVariants as refusal
use Rattle.rvm_audit.specs.declared.error.AuditError.{AuditError}
use Rattle.rvm_audit.specs.declared.error.AuditError.TheVariants.{OutOfMemory, NoOrder}
use Rattle.rvm_audit.specs.ListOrders.{IsDeadEnd}

-- the number of each refusal
abbrev pub audit_refusal : AuditError → Refusal
audit_refusal OutOfMemory = refusal.OutOfMemory
audit_refusal (NoOrder i j) = refusal.NoOrder

-- an audit refuses for this reason: that there is no order only at a dead end; memory may run out anywhere
abbrev pub IsAuditError : AuditError → (a b : History) → Type 0
IsAuditError OutOfMemory a b = Unit {0}
IsAuditError (NoOrder i j) a b = IsDeadEnd a b i j
