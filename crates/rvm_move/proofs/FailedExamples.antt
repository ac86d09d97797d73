-- How failed moves are reported, worked out by hand; and that something is reported of each.
use Rattle.std.proofs.Common.{◌≡◌, ℕ, List, [], ◌∷◌, ◌++◌, Option, None, Err, Ok, Some, codes, refl}
use Rattle.std.specs.Fmt.{digits}
use Rattle.rvm_recorder.specs.Closing.{close_refusal}
use Rattle.rvm_recorder.specs.declared.closing.CloseKind.{CloseKind}
use Rattle.rvm_recorder.specs.declared.closing.CloseKind.TheVariants.{Mismatch}
use Rattle.rvm_cell.specs.declared.harts.TurnsEnd.TheVariants.{Halted, StepsSpent}
use Rattle.rvm_move.specs.declared.ends.Ends.{Ends}
use Rattle.rvm_move.specs.Ends.{failure}
use Rattle.rvm_refusal.specs.declared.refusal.Refusal.{Refusal}
use Rattle.rvm_refusal.specs.declared.refusal.Refusal.TheVariants as refusal
use Rattle.rvm_refusal.specs.Refusal.{text_of}
use Rattle.rvm_cell.specs.declared.end.WorkEnd.{WorkEnd}
use Rattle.rvm_cell.specs.declared.end.WorkEnd.TheVariants as end
use Rattle.rvm_move.specs.Ended.{IsSound, failure_line, first_fault, line_first, line_of, line_or, refusal_of_end, words_of}

-- a worker's failure is told before a host's fault
the_copier_failed_first : failure_line (record { harts = Ok StepsSpent; copier = end.RecorderFull 5; receiver_a = end.Done; receiver_b = end.OutOfMemory }) (Some (Mismatch 0)) None
    ≡ line_of refusal.RecorderFull
the_copier_failed_first = refl

the_second_host_was_not_closed : failure_line (record { harts = Ok StepsSpent; copier = end.Done; receiver_a = end.Done; receiver_b = end.Done }) None (Some (Mismatch 4))
    ≡ line_of refusal.Mismatch
the_second_host_was_not_closed = refl

a_move_that_is_given_up_has_not_failed : failure_line (record { harts = Ok (Halted 0); copier = end.GivenUp; receiver_a = end.Done; receiver_b = end.LinkFault }) None None ≡ []
a_move_that_is_given_up_has_not_failed = refl

a_full_journal_has_a_line : line_of refusal.RecorderFull ≡ codes "refused 29 RecorderFull\n"
unfolding digits
a_full_journal_has_a_line = refl

-- if the guest's turns stop between the hosts, the line is in words
a_guest_that_stopped_has_words : failure_line (record { harts = Err end.GuestStopped; copier = end.Done; receiver_a = end.Done; receiver_b = end.Done }) None None
    ≡ codes "guest stopped between hosts\n"
a_guest_that_stopped_has_words = refl

-- likewise if the workers that the second receiver is to hear have no thread
a_thread_that_is_not_had_has_words : failure_line (record { harts = Ok StepsSpent; copier = end.Done; receiver_a = end.Done; receiver_b = end.NoThread }) None None
    ≡ codes "no thread was had for the workers at the other host\n"
a_thread_that_is_not_had_has_words = refl

-- a receiver may end with its link
the_end_of_a_link_is_no_failure : failure_line (record { harts = Ok StepsSpent; copier = end.Done; receiver_a = end.LinkEnded; receiver_b = end.LinkEnded }) None None ≡ []
the_end_of_a_link_is_no_failure = refl

-- SOMETHING IS TOLD OF EACH FAILURE

ends_a_line : (text : List ℕ) → text ++ codes "\n" ≡ [] → ⊥
ends_a_line [] none = cc
ends_a_line (x ∷ text) none = cc

is_a_line : (refusal : Option Refusal) (words : List ℕ) → line_or refusal words ≡ [] → ⊥
is_a_line (Some r) words none = ends_a_line (text_of r) none
is_a_line None words none = ends_a_line words none

failed_first : (end : Option WorkEnd) (a b : Option CloseKind) → ((end ≡ None) × (a ≡ None) × (b ≡ None) → ⊥)
    → line_first end (first_fault a b) ≡ [] → ⊥
failed_first (Some end) a b failed none = is_a_line (refusal_of_end end) (words_of end) none
failed_first None (Some kind) b failed none = ends_a_line (text_of (close_refusal kind)) none
failed_first None None (Some kind) failed none = ends_a_line (text_of (close_refusal kind)) none
failed_first None None None failed none = failed (refl, refl, refl)

-- a move that failed has a line
pub a_failure_is_told : (ends : Ends) (a b : Option CloseKind) → (IsSound ends a b → ⊥) → failure_line ends a b ≡ [] → ⊥
a_failure_is_told ends a b failed none = failed_first (failure ends) a b failed none
