-- What a replay reports, where it is not known how much of that was written.
use Rattle.std.proofs.Common.{◌≡◌, ℕ, zero, suc, List, [], ◌++◌, Option, Some, None, codes, refl, subst, inl, inr}
use Rattle.std.specs.Io.KnownBytes.{Appends}
use Rattle.std.specs.Prelude.{IfOk, Result, Ok, Err, OnErr}
use Rattle.rvm_board.specs.Guest.{Guest}
use Rattle.rvm_command.specs.Command.{refused_text}
use Rattle.rvm_command.specs.Ends.{IsExtendedEndOf}
use Rattle.rvm_command.specs.Refusals.{refused, refused_of_script}
use Rattle.rvm_debug.specs.declared.script.ScriptError.{ScriptError}
use Rattle.rvm_journal.specs.Headers.{header_at}
use Rattle.rvm_journal.specs.Whole.{IsJournal}
use Rattle.rvm_recorder.specs.History.{Recording, count_of}
use Rattle.rvm_replay.specs.Behind.{most_replayed}
use Rattle.rvm_refusal.specs.declared.refusal.Refusal.TheVariants.{LinkFault}
use Rattle.rvm_replay.specs.Consoles.{console_of}
use Rattle.rvm_replay.specs.FileFaults.{IsFileFault, fault_line}
use Rattle.rvm_replay.specs.Replays.{HasAnswerStatus, HasReplayStatus, HasSessionStatus, HasShownStatus, IsReplay, IsUntold, guest_after, no_guest_line, replayed_line}
use Rattle.rvm_replay.specs.declared.file.FileFault.{FileFault}

-- whatever is returned, a failure is told so
pub on_error : {A E : Type 0} (r : Result A E) (P : Type 0) → P → OnErr r P
on_error (Ok a) P told = tt
on_error (Err e) P told = told

-- what a guest sent was shown, or not
module _ (bytes : List ℕ) (count : ℕ) (out out' : Option (List ℕ)) where
  pub shown_untold : Appends out out' bytes
      → IsUntold (λ status before after. HasShownStatus status bytes count out out' before after)
  shown_untold shown = (0, replayed_line count, record { shown = shown; counted = refl })

  pub unwritten_untold : IsUntold (λ status before after. HasShownStatus status bytes count out out' before after)
  unwritten_untold = (1, refused_text (refused LinkFault) ++ codes "\n", refl)

-- a session was refused for a guest
pub refused_untold : (name : List ℕ) (n : ℕ) (guest : Guest) (session out out' : Option (List ℕ)) (why : ScriptError)
    → IsExtendedEndOf session guest (Err why) out out'
    → IsUntold (λ status before after. HasAnswerStatus status name (Some guest) n session out out' before after)
refused_untold name n guest session out out' why ended =
    (1, refused_text (refused_of_script why) ++ codes "\n", record { why = why; ended = ended; reported = refl })

-- none is there
pub nobody_untold : (name : List ℕ) (n : ℕ) (session out out' : Option (List ℕ)) (here : Option Guest) → None ≡ here → out' ≡ out
    → IsUntold (λ status before after. HasAnswerStatus status name here n session out out' before after)
nobody_untold name n session out out' here is same = (
  1,
  no_guest_line name n,
  subst (λ g. HasAnswerStatus 1 name g n session out out' (Some []) (Some (no_guest_line name n))) is (same, refl),
)

module _ (name : List ℕ) (most : Option ℕ) (journal image : List ℕ) (out out' : Option (List ℕ)) where
  -- a journal was refused
  module _ (why : FileFault) (fault : IsFileFault why most most_replayed (header_at journal) journal image) (same : out' ≡ out) where
    pub replay_untold : IsUntold (λ status before after. HasReplayStatus status name most journal image out out' before after)
    replay_untold = (1, fault_line name why, inl (record { why = why; fault = fault; reported = refl }, same))

    pub session_untold : (session : Option (List ℕ))
        → IsUntold (λ status before after. HasSessionStatus status name most journal image session out out' before after)
    session_untold session = (1, fault_line name why, inl (record { why = why; fault = fault; reported = refl }, same))

  -- the host of the journal did again what is wanted
  module _ (recording : Recording) (replay : IsReplay most journal image recording) where
    shown_again : (status : ℕ) (before after : Option (List ℕ))
        → HasShownStatus status (console_of recording.journal.entries) (count_of recording) out out' before after
        → HasReplayStatus status name most journal image out out' before after
    shown_again zero before after shown = record { recording = recording; replay = replay; shown = shown }
    shown_again (suc zero) before after told =
        inr (record { recording = recording; replay = replay; reported = told })
    shown_again (suc (suc n)) before after none = absurd none

    pub replays_ended : {F : Type 0} (r : Result ℕ F) (bytes : List ℕ) (count : ℕ) (before after : Option (List ℕ))
        → bytes ≡ console_of recording.journal.entries → count ≡ count_of recording
        → IfOk r (λ status. HasShownStatus status bytes count out out' before after)
        → IfOk r (λ status. HasReplayStatus status name most journal image out out' before after)
    replays_ended (Ok s) bytes count before after bytes_are count_is ended =
        shown_again s before after
        (subst (λ b. HasShownStatus s b (count_of recording) out out' before after) bytes_are
        (subst (λ n. HasShownStatus s bytes n out out' before after) count_is ended))
    replays_ended (Err e) bytes count before after bytes_are count_is ended = tt

    pub replays_untold : {F : Type 0} (r : Result ℕ F) (bytes : List ℕ) (count : ℕ)
        → bytes ≡ console_of recording.journal.entries → count ≡ count_of recording
        → OnErr r (IsUntold (λ status before after. HasShownStatus status bytes count out out' before after))
        → OnErr r (IsUntold (λ status before after. HasReplayStatus status name most journal image out out' before after))
    replays_untold (Ok s) bytes count bytes_are count_is untold = tt
    replays_untold (Err e) bytes count bytes_are count_is (status, report, ended) = (
      status,
      report,
      shown_again status (Some []) (Some report)
          (subst (λ b. HasShownStatus status b (count_of recording) out out' (Some []) (Some report)) bytes_are
          (subst (λ n. HasShownStatus status bytes n out out' (Some []) (Some report)) count_is ended)),
    )

    answered_again : (session : Option (List ℕ)) (status : ℕ) (before after : Option (List ℕ))
        → HasAnswerStatus status name (guest_after recording) (count_of recording) session out out' before after
        → HasSessionStatus status name most journal image session out out' before after
    answered_again session zero before after (answered, same) =
        (record { recording = recording; replay = replay; answered = answered }, same)
    answered_again session (suc zero) before after unanswered =
        inr (record { recording = recording; replay = replay; unanswered = unanswered })
    answered_again session (suc (suc n)) before after none = absurd none

    pub sessions_ended : {F : Type 0} (r : Result ℕ F) (session : Option (List ℕ)) (guest : Option Guest) (count : ℕ)
        (before after : Option (List ℕ)) → guest ≡ guest_after recording → count ≡ count_of recording
        → IfOk r (λ status. HasAnswerStatus status name guest count session out out' before after)
        → IfOk r (λ status. HasSessionStatus status name most journal image session out out' before after)
    sessions_ended (Ok s) session guest count before after guest_is count_is ended =
        answered_again session s before after
        (subst (λ g. HasAnswerStatus s name g (count_of recording) session out out' before after) guest_is
        (subst (λ n. HasAnswerStatus s name guest n session out out' before after) count_is ended))
    sessions_ended (Err e) session guest count before after guest_is count_is ended = tt

    pub sessions_untold : {F : Type 0} (r : Result ℕ F) (session : Option (List ℕ)) (guest : Option Guest) (count : ℕ)
        → guest ≡ guest_after recording → count ≡ count_of recording
        → OnErr r (IsUntold (λ status before after. HasAnswerStatus status name guest count session out out' before after))
        → OnErr r (IsUntold (λ status before after.
        HasSessionStatus status name most journal image session out out' before after))
    sessions_untold (Ok s) session guest count guest_is count_is untold = tt
    sessions_untold (Err e) session guest count guest_is count_is (status, report, ended) = (
      status,
      report,
      answered_again session status (Some []) (Some report)
          (subst (λ g. HasAnswerStatus status name g (count_of recording) session out out' (Some []) (Some report)) guest_is
          (subst (λ n. HasAnswerStatus status name guest n session out out' (Some []) (Some report)) count_is ended)),
    )

-- so it ended for a text of a journal
module _ (known : Option (List ℕ)) where
  pub with_text : {F : Type 0} (r : Result ℕ F) (P : List ℕ → ℕ → Type 0) (text : List ℕ) → IsJournal known text → IfOk r (P text)
      → IfOk r (λ s. (text : List ℕ) × IsJournal known text × P text s)
  with_text (Ok s) P text is ended = (text, is, ended)
  with_text (Err e) P text is ended = tt

  pub with_text_untold : {F : Type 0} (r : Result ℕ F) (P : List ℕ → Type 0) (text : List ℕ) → IsJournal known text → OnErr r (P text)
      → OnErr r ((text : List ℕ) × IsJournal known text × P text)
  with_text_untold (Ok s) P text is untold = tt
  with_text_untold (Err e) P text is untold = (text, is, untold)
