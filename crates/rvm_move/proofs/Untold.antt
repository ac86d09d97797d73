-- What was to be reported of a move if a write to `errors` failed.
use Rattle.std.proofs.Common.{◌≡◌, ◌⊎◌, Bool, ℕ, List, [], ◌++◌, Option, None, Some, Result, Ok, Err, codes, inl, inr, refl}
use Rattle.std.specs.Prelude.{IfErr, IfOk, OnErr}
use Rattle.rvm_arguments.specs.declared.arguments.MoveArguments.{MoveArguments}
use Rattle.rvm_audit.specs.declared.error.AuditError.{AuditError}
use Rattle.rvm_audit.specs.Errors.{IsAuditError, audit_refusal}
use Rattle.rvm_recorder.specs.declared.closing.CloseKind.{CloseKind}
use Rattle.rvm_command.specs.declared.refused.Refused.{Refused}
use Rattle.rvm_command.specs.Command.{refused_text}
use Rattle.rvm_command.specs.Refusals.{refused}
use Rattle.rvm_recorder.specs.History.{History}
use Rattle.rvm_recorder.specs.Replay.{IsReplay}
use Rattle.rvm_move.specs.declared.ends.Ends.{Ends}
use Rattle.rvm_move.specs.Ends.{failure}
use Rattle.rvm_move.specs.Answers.{answers_text}
use Rattle.rvm_move.specs.Ended.{AreLeft, IsFailureOf, IsMoveRefusal, IsMoved, IsNotMoved, IsSound, IsToldOf, IsUntold, end_line, failure_line, move_status}
use Rattle.rvm_move.specs.Orders.{HasNoOrder, IsNotAudited, IsOrderRefusal, IsUnordered}
use Rattle.rvm_move.proofs.MovesTold.{sound_end}
use Rattle.rvm_move.proofs.Unordered.{reason_of}
use Rattle.rvm_refusal.specs.declared.refusal.Refusal.TheVariants as refusal

-- the line of a refusal
abbrev line : Refused → List ℕ
line r = refused_text r ++ codes "\n"

-- what was to be reported if an order was refused
unordered : (first second : History) (r : Refused) → IsReplay first.opening first.entries
    → IsReplay second.opening second.entries → IsOrderRefusal first second r → IsUntold (IsUnordered first second)
unordered first second r first_replays second_replays why = (
  line r,
  record {
    first_replays = first_replays;
    second_replays = second_replays;
    why = r;
    reason = why;
    told = refl;
  },
)

-- what was to be reported if there is no order
pub no_order : (first second : History) (why : AuditError) → IsReplay first.opening first.entries
    → IsReplay second.opening second.entries → IsAuditError why first second → IsUntold (IsUnordered first second)
no_order first second why first_replays second_replays is =
    unordered first second (refused (audit_refusal why)) first_replays second_replays (reason_of first second why is)

-- what was to be reported if the order could not be written
pub no_write : (first second : History) → IsReplay first.opening first.entries
    → IsReplay second.opening second.entries → IsUntold (IsUnordered first second)
no_write first second first_replays second_replays =
    unordered first second (refused refusal.LinkFault) first_replays second_replays (inr (inl refl))

-- what was to be reported if the move failed, so that it has no order
pub has_failed : {X F : Type 0} (r : Result X F) (ends : Ends) (a b : Option CloseKind) (first second : History)
    → (IsSound ends a b → ⊥) → OnErr r (IsUntold (HasNoOrder ends a b first second))
has_failed (Ok x) ends a b first second failed = tt
has_failed (Err e) ends a b first second failed =
    (failure_line ends a b, inl (record { failed = failed; told = refl }))

-- what was to be reported if the move did not fail, and its journals have no order
pub has_no_order : {X F : Type 0} (r : Result X F) (ends : Ends) (a b : Option CloseKind) (first second : History)
    → OnErr r (IsUntold (IsUnordered first second)) → OnErr r (IsUntold (HasNoOrder ends a b first second))
has_no_order (Ok x) ends a b first second none = tt
has_no_order (Err e) ends a b first second none = (none.0, inr none.1)

-- what was to be reported if the move did not begin
pub not_begun : {X F : Type 0} (r : Result X F) (a : MoveArguments) (file : List ℕ) (why : Refused)
    → IsMoveRefusal a file why → OnErr r (IsUntold (IsNotAudited a file))
not_begun (Ok x) a file why reason = tt
not_begun (Err e) a file why reason = (line why, inl (record { why = why; reason = reason; told = refl }))

-- what was to be reported if the move has no order
pub not_audited : {X F : Type 0} (r : Result X F) (arguments : MoveArguments) (file : List ℕ) (ends : Ends)
    (a b : Option CloseKind) (first second : History) → AreLeft arguments file ends a b first second
    → OnErr r (IsUntold (HasNoOrder ends a b first second)) → OnErr r (IsUntold (IsNotAudited arguments file))
not_audited (Ok x) arguments file ends a b first second left none = tt
not_audited (Err e) arguments file ends a b first second left none = (
  none.0,
  inr (record {
    ends = ends;
    fault_a = a;
    fault_b = b;
    first = first;
    second = second;
    left = left;
    holds = none.1;
  }),
)

-- whether there is a value or none
none_or_some : {X : Type 0} (o : Option X) → (o ≡ None) ⊎ (o ≡ None → ⊥)
none_or_some None = inl refl
none_or_some (Some x) = inr (λ e. absurd cc)

-- three values are all missing, or not
three : {X Y : Type 0} (o : Option X) (a b : Option Y)
    → ((o ≡ None) × (a ≡ None) × (b ≡ None)) ⊎ ((o ≡ None) × (a ≡ None) × (b ≡ None) → ⊥)
three o a b =
    elim (none_or_some o) [
      | inr some ↦ inr (λ all. some all.0)
      | inl none ↦ elim (none_or_some a) [
        | inr some ↦ inr (λ all. some all.1)
        | inl none_a ↦ elim (none_or_some b) [
          | inr some ↦ inr (λ all. some all.2)
          | inl none_b ↦ inl (none, none_a, none_b)
        ]
      ]
    ]

sound_or_not : (ends : Ends) (a b : Option CloseKind) → IsSound ends a b ⊎ (IsSound ends a b → ⊥)
sound_or_not ends a b = three (failure ends) a b

-- the replies of both hosts, and why the move failed, if it did, or how the turns ended, with this status
abbrev pub IsEndOf : (verdict : Bool) → Ends → (a b : Option CloseKind) → (first second : History)
    → (before after : Option (List ℕ)) → Type 0
IsEndOf verdict ends a b first second before after =
    ((status : ℕ) × IsToldOf verdict status ends a b first second before after)
    ⊎ IsFailureOf ends a b first second before after

pub end_of : (verdict : Bool) (ends : Ends) (a b : Option CloseKind) (first second : History)
    → IsReplay first.opening first.entries → IsReplay second.opening second.entries
    → IsUntold (IsEndOf verdict ends a b first second)
end_of verdict ends a b first second replay_a replay_b =
    elim (sound_or_not ends a b) [
      | inl sound ↦ (let end = sound_end ends a b sound in (
        answers_text first.entries ++ (answers_text second.entries ++ end_line verdict end.0),
        inl (
          move_status verdict end.0,
          record {
            sound = sound;
            end = end.0;
            turned = end.1;
            status_is = refl;
            first_replays = replay_a;
            second_replays = replay_b;
            written = refl;
          },
        ),
      ))
      | inr failed ↦ (
        answers_text first.entries ++ (answers_text second.entries ++ failure_line ends a b),
        inr (record {
          failed = failed;
          first_replays = replay_a;
          second_replays = replay_b;
          told = refl;
        }),
      )
    ]

-- what was to be reported if the move did not begin, whatever the call returns
pub not_moved : {X F : Type 0} (r : Result X F) (a : MoveArguments) (file : List ℕ) (why : Refused)
    (output_before output_after : Option (List ℕ)) → IsMoveRefusal a file why
    → OnErr r (IsUntold (λ before after.
    ((status : ℕ) × IsMoved a file status before after output_before output_after) ⊎ IsNotMoved a file before after))
not_moved (Ok x) a file why ob oa reason = tt
not_moved (Err e) a file why ob oa reason = (line why, inr (inl (record { why = why; reason = reason; told = refl })))

-- what was to be reported by a call that tells how a move ended
pub untold_move : {X F : Type 0} (r : Result ℕ F) (m : Result X Refused) (a : MoveArguments) (file : List ℕ)
    (output_before output_after : Option (List ℕ)) (left output replays : X → Type 0)
    (Moved : X → (status : ℕ) → (before after : Option (List ℕ)) → Type 0)
    (Failed : X → (before after : Option (List ℕ)) → Type 0)
    → ((x : X) → replays x → IsUntold (λ before after. ((status : ℕ) × Moved x status before after) ⊎ Failed x before after))
    → ((x : X) (status : ℕ) (before after : Option (List ℕ)) → left x → output x → Moved x status before after
    → IsMoved a file status before after output_before output_after)
    → ((x : X) (before after : Option (List ℕ)) → left x → Failed x before after → IsNotMoved a file before after)
    → IfOk m left → IfOk m output → IfOk m replays → IfErr m (IsMoveRefusal a file)
    → OnErr r (IsUntold (λ before after.
    ((status : ℕ) × IsMoved a file status before after output_before output_after) ⊎ IsNotMoved a file before after))
untold_move (Ok s) m a file ob oa left output replays Moved Failed f g h n o t why = tt
untold_move (Err e) (Err r) a file ob oa left output replays Moved Failed f g h n o t why =
    (line r, inr (inl (record { why = r; reason = why; told = refl })))
untold_move (Err e) (Ok x) a file ob oa left output replays Moved Failed f g h n o t why =
    let all = f x t in
    elim all.1 [
      | inl moved ↦ (all.0, inl (moved.0, g x moved.0 (Some []) (Some all.0) n o moved.1))
      | inr failed ↦ (all.0, inr (h x (Some []) (Some all.0) n failed))
    ]
