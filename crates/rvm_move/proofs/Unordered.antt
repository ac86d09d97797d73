-- What an audit leaves if it wrote no order.
use Rattle.std.proofs.Common.{◌≡◌, ℕ, List, Option, Result, Ok, Err, arith, inl, inr, refl, subst, sym}
use Rattle.std.specs.Prelude.{◌↔◌, IfOk, OnOk}
use Rattle.std.specs.Io.KnownBytes.{Appends}
use Rattle.rvm_arguments.specs.declared.arguments.MoveArguments.{MoveArguments}
use Rattle.rvm_audit.specs.declared.error.AuditError.{AuditError}
use Rattle.rvm_audit.specs.declared.error.AuditError.TheVariants.{NoOrder, OutOfMemory}
use Rattle.rvm_audit.specs.Errors.{IsAuditError, audit_refusal}
use Rattle.rvm_recorder.specs.declared.closing.CloseKind.{CloseKind}
use Rattle.rvm_command.specs.declared.refused.Refused.{Refused}
use Rattle.rvm_command.specs.Refusals.{IsTold, refused}
use Rattle.rvm_recorder.specs.History.{History}
use Rattle.rvm_recorder.specs.Replay.{IsReplay}
use Rattle.rvm_move.specs.declared.ends.Ends.{Ends}
use Rattle.rvm_move.specs.Ended.{AreLeft, IsMoveRefusal, IsSound, failure_line}
use Rattle.rvm_move.specs.Orders.{HasNoOrder, IsNotAudited, IsOrderRefusal, IsUnordered}
use Rattle.rvm_refusal.specs.declared.refusal.Refusal.TheVariants as refusal

pub reason_of : (first second : History) (why : AuditError) → IsAuditError why first second
    → IsOrderRefusal first second (refused (audit_refusal why))
reason_of first second OutOfMemory is = inr (inr refl)
reason_of first second (NoOrder i j) is = inl (refl, (i, (j, is)))

-- the audit found no order
pub no_order : (first second : History) (why : AuditError) (r : Refused) (before after : Option (List ℕ))
    → IsReplay first.opening first.entries → IsReplay second.opening second.entries → IsAuditError why first second
    → r ≡ refused (audit_refusal why) → IsTold r before after → IsUnordered first second before after
no_order first second why r before after first_replays second_replays is told_is told = record {
  first_replays = first_replays;
  second_replays = second_replays;
  why = r;
  reason = subst (IsOrderRefusal first second) (sym told_is) (reason_of first second why is);
  told = told;
}

-- the order could not be written
pub no_write : (first second : History) (r : Refused) (before after : Option (List ℕ))
    → IsReplay first.opening first.entries → IsReplay second.opening second.entries → r ≡ refused refusal.LinkFault
    → IsTold r before after → IsUnordered first second before after
no_write first second r before after first_replays second_replays is told = record {
  first_replays = first_replays;
  second_replays = second_replays;
  why = r;
  reason = inr (inl is);
  told = told;
}

-- the move failed
pub has_failed : (status : ℕ) (ends : Ends) (a b : Option CloseKind) (first second : History) (before after : Option (List ℕ))
    → status ≡ 0 ↔ IsSound ends a b → Appends before after (failure_line ends a b)
    → status ≡ 1 → HasNoOrder ends a b first second before after
has_failed status ends a b first second before after sound told is =
    inl (record { failed = λ it. (let zero = sound.1 it in absurd (omega (arith, zero, is))); told = told })

-- the move did not begin
pub not_begun : {X F : Type 0} (r : Result X F) (status : X → ℕ) (a : MoveArguments) (file : List ℕ) (why : Refused)
    (before after : Option (List ℕ)) → IsMoveRefusal a file why → OnOk r (IsTold why before after)
    → IfOk r (λ x. status x ≡ 1 → IsNotAudited a file before after)
not_begun (Ok x) status a file why before after reason told =
    λ is. inl (record { why = why; reason = reason; told = told })
not_begun (Err e) status a file why before after reason told = tt

-- what a call returns after the move began
pub not_audited : {X F : Type 0} (r : Result X F) (status : X → ℕ) (arguments : MoveArguments) (file : List ℕ) (ends : Ends)
    (a b : Option CloseKind) (first second : History) (before after : Option (List ℕ))
    → AreLeft arguments file ends a b first second → IfOk r (λ x. status x ≡ 1 → HasNoOrder ends a b first second before after)
    → IfOk r (λ x. status x ≡ 1 → IsNotAudited arguments file before after)
not_audited (Ok x) status arguments file ends a b first second before after left none = λ is. inr (record {
  ends = ends;
  fault_a = a;
  fault_b = b;
  first = first;
  second = second;
  left = left;
  holds = none is;
})
not_audited (Err e) status arguments file ends a b first second before after left none = tt
