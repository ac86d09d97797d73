-- What a move leaves if it did not begin, or failed.
use Rattle.std.proofs.Common.{◌≡◌, ℕ, List, ◌++◌, Option, Result, Ok, Err, arith, inl, inr}
use Rattle.std.proofs.KnownBytes.{Appends-trans}
use Rattle.std.specs.Io.KnownBytes.{Appends}
use Rattle.std.specs.Prelude.{◌↔◌, IfErr, IfOk, OnOk}
use Rattle.rvm_arguments.specs.declared.arguments.MoveArguments.{MoveArguments}
use Rattle.rvm_recorder.specs.declared.closing.CloseKind.{CloseKind}
use Rattle.rvm_command.specs.declared.refused.Refused.{Refused}
use Rattle.rvm_command.specs.Refusals.{IsTold, refused}
use Rattle.rvm_recorder.specs.History.{History}
use Rattle.rvm_move.specs.declared.ends.Ends.{Ends}
use Rattle.rvm_recorder.specs.Replay.{IsReplay}
use Rattle.rvm_move.specs.Answers.{answers_text}
use Rattle.rvm_move.specs.Ended.{AreLeft, IsFailed, IsFailureOf, IsMoveRefusal, IsNotMoved, IsSound, failure_line}
use Rattle.rvm_refusal.specs.declared.refusal.Refusal.TheVariants as refusal

-- the replies of both hosts were written, and after them the line with which the move failed
pub failure_told : (ends : Ends) (a b : Option CloseKind) (first second : History) (before one two after : Option (List ℕ))
    → IsReplay first.opening first.entries → IsReplay second.opening second.entries
    → Appends before one (answers_text first.entries) → Appends one two (answers_text second.entries)
    → Appends two after (failure_line ends a b) → (IsSound ends a b → ⊥) → IsFailureOf ends a b first second before after
failure_told ends a b first second before one two after first_replays second_replays of_first of_second line failed = record {
  failed = failed;
  first_replays = first_replays;
  second_replays = second_replays;
  told =
      Appends-trans before one after (answers_text first.entries) (answers_text second.entries ++ failure_line ends a b) of_first
      (Appends-trans one two after (answers_text second.entries) (failure_line ends a b) of_second line);
}

-- the same, if a call told the line
pub failure_answered : {F : Type 0} (r : Result ℕ F) (ends : Ends) (a b : Option CloseKind) (first second : History)
    (before one two after : Option (List ℕ)) → IsReplay first.opening first.entries → IsReplay second.opening second.entries
    → Appends before one (answers_text first.entries) → Appends one two (answers_text second.entries)
    → IfOk r (λ s. s ≡ 0 ↔ IsSound ends a b) → OnOk r (Appends two after (failure_line ends a b))
    → IfOk r (λ s. s ≡ 1 → IsFailureOf ends a b first second before after)
failure_answered (Ok s) ends a b first second before one two after replay_a replay_b of_first of_second sound line =
    λ is. failure_told ends a b first second before one two after replay_a replay_b of_first of_second line
    (λ it. (let zero = sound.1 it in absurd (omega (arith, zero, is))))
failure_answered (Err e) ends a b first second before one two after replay_a replay_b of_first of_second sound line = tt

if_err : {X F : Type 0} (r : Result X F) (P Q : F → Type 0) → ((e : F) → P e → Q e) → IfErr r P → IfErr r Q
if_err (Ok x) P Q f p = tt
if_err (Err e) P Q f p = f e p

-- a move may be refused since memory ran out
pub for_memory : {X : Type 0} (m : Result X Refused) (a : MoveArguments) (file : List ℕ)
    → IfErr m (λ r. r ≡ refused refusal.OutOfMemory) → IfErr m (IsMoveRefusal a file)
for_memory m a file why = if_err m (λ r. r ≡ refused refusal.OutOfMemory) (IsMoveRefusal a file) (λ r is. inr (inr is)) why

-- what a call returns that tells why a move did not begin, or failed
pub not_moved : {X F : Type 0} (r : Result ℕ F) (m : Result X Refused) (a : MoveArguments) (file : List ℕ)
    (before after : Option (List ℕ)) (opened failure : X → Type 0)
    → ((x : X) → opened x → failure x → IsFailed a file before after) → IfOk m opened
    → IfErr m (IsMoveRefusal a file) → IfOk r (λ s. IfErr m (λ why. IsTold why before after))
    → IfOk r (λ s. IfOk m (λ x. s ≡ 1 → failure x)) → IfOk r (λ s. s ≡ 1 → IsNotMoved a file before after)
not_moved (Ok s) (Ok x) a file before after opened failure f begun reason told failed = λ is. inr (f x begun (failed is))
not_moved (Ok s) (Err why) a file before after opened failure f begun reason told failed =
    λ is. inl (record { why = why; reason = reason; told = told })
not_moved (Err e) m a file before after opened failure f begun reason told failed = tt

-- the same of the two hosts of a move
pub failed_of : (arguments : MoveArguments) (file : List ℕ) (ends : Ends) (a b : Option CloseKind) (first second : History)
    (before after : Option (List ℕ)) → AreLeft arguments file ends a b first second
    → IsFailureOf ends a b first second before after → IsFailed arguments file before after
failed_of arguments file ends a b first second before after left failure = record {
  ends = ends;
  fault_a = a;
  fault_b = b;
  first = first;
  second = second;
  left = left;
  holds = failure;
}
