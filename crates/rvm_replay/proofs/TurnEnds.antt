-- How a replay up to a turn ends.
use Rattle.std.proofs.Common.{◌≡◌, ◌<◌, ℕ, zero, suc, List, [], ◌++◌, Option, Some, Result, Ok, Err, codes, inl, inr, length, refl, subst, sym}
use Rattle.std.specs.Borrow.{Bor}
use Rattle.std.specs.Io.KnownBytes.{Appends}
use Rattle.std.specs.Prelude.{IfOk, OnErr, slice_get}
use Rattle.rvm_audit.specs.Rule.{IsMerge}
use Rattle.rvm_command.specs.Command.{refused_text}
use Rattle.rvm_command.specs.Refusals.{IsTold, refused}
use Rattle.rvm_core.specs.declared.event.Event.{Event}
use Rattle.rvm_journal.specs.Whole.{IsJournal}
use Rattle.rvm_recorder.specs.History.{Recording}
use Rattle.rvm_refusal.specs.declared.refusal.Refusal.TheVariants.{OutOfMemory}
use Rattle.rvm_replay.specs.Audited.{AreReplayed, journals_in}
use Rattle.rvm_replay.specs.Findings.{HasNoOrder, IsFaultTold, IsUntoldNoOrder}
use Rattle.rvm_replay.specs.Replays.{HasSessionStatus, IsUntold}
use Rattle.rvm_replay.specs.Turns.{HasPlace, HasTurnStatus, IsNoTurn, IsTurnSession, IsUntoldLook, IsUntoldSession, IsUntoldTurn, few_turns_line, turn_hosts}
use Rattle.rvm_replay.specs.Unaudited.{IsJournalsFault}
use Rattle.rvm_replay.specs.Journals.{AreTexts, JournalText, names_in, plain_names}
use Rattle.rvm_replay.specs.declared.file.JournalsFault.{JournalsFault}
use Rattle.rvm_replay.proofs.AuditEnds.{told_of}
use Rattle.rvm_replay.proofs.Worlds.{named_same}

-- the journals are not audited
module _ (files : List JournalText) (image : List ℕ) (turn : ℕ) (fault : JournalsFault) (reason : IsJournalsFault 4294967295 files image fault)
  where
    pub not_audited : (out errors errors' : Option (List ℕ)) → IsFaultTold (names_in files) fault errors errors'
        → IsNoTurn 1 files image turn out out errors errors'
    not_audited out errors errors' told = inl (record { fault = fault; reason = reason; told = told; same = refl })

    pub not_audited_untold : IsUntoldLook files image turn
    not_audited_untold out = let told = told_of (names_in files) fault in (1, told.0, not_audited out (Some []) (Some told.0) told.1)

-- the hosts of a world did what their journals tell
module _ (files : List JournalText) (image : List ℕ) (all : List Recording) (are : AreReplayed files image all) (turn : ℕ) where
  -- but that has no order
  no_order : (status : ℕ) (out errors errors' : Option (List ℕ)) → HasNoOrder status files all errors errors'
      → IsNoTurn status files image turn out out errors errors'
  no_order zero out errors errors' none = absurd none
  no_order (suc zero) out errors errors' is = inr (inl (record { all = all; replayed = are; found = inl (is, refl) }))
  no_order (suc (suc zero)) out errors errors' none = absurd none
  no_order (suc (suc (suc zero))) out errors errors' is =
      record { all = all; replayed = are; undecided = is; same = refl }
  no_order (suc (suc (suc (suc n)))) out errors errors' none = absurd none

  pub no_order_looked : (status : ℕ) (errors errors' : Option (List ℕ)) → HasNoOrder status files all errors errors'
      → (out : Option (List ℕ)) → IsNoTurn status files image turn out out errors errors'
  no_order_looked status errors errors' is out = no_order status out errors errors' is

  pub no_order_untold : IsUntoldNoOrder files all → IsUntoldLook files image turn
  no_order_untold (status, report, is) out = (status, report, no_order status out (Some []) (Some report) is)

  -- or memory ran out
  pub no_memory : (out errors errors' : Option (List ℕ)) → IsTold (refused OutOfMemory) errors errors'
      → IsNoTurn 1 files image turn out out errors errors'
  no_memory out errors errors' told =
      inr (inl (record { all = all; replayed = are; found = inr (inl (told, refl)) }))

  pub no_memory_untold : IsUntoldLook files image turn
  no_memory_untold out =
      let report = refused_text (refused OutOfMemory) ++ codes "\n" in
      (1, report, no_memory out (Some []) (Some report) refl)

  -- or their order has fewer turns
  module _ (events : List Event) (merge : IsMerge (journals_in all) events) (count : ℕ) (long : length (turn_hosts events) ≡ count)
      (few : count < turn) where
    pub few_turns : (out errors errors' : Option (List ℕ)) → Appends errors errors' (few_turns_line count)
        → IsNoTurn 1 files image turn out out errors errors'
    few_turns out errors errors' told = inr (inr (
      record {
        all = all;
        events = events;
        replayed = are;
        merge = merge;
        few = subst (λ n. n < turn) (sym long) few;
        reported = subst (λ n. Appends errors errors' (few_turns_line n)) (sym long) told;
      },
      refl,
    ))

    pub few_turns_untold : IsUntoldLook files image turn
    few_turns_untold out =
        let report = few_turns_line count in (1, report, few_turns out (Some []) (Some report) refl)

-- a session was answered for the guest after a turn
module _ (files : List JournalText) (image : List ℕ) (turn index count : ℕ) (file : JournalText) (place : HasPlace files image turn index count)
    (file_is : slice_get files index ≡ Some file) (session out out' : Option (List ℕ)) where
  answered : (status : ℕ) (errors errors' : Option (List ℕ))
      → HasSessionStatus status file.name (Some count) file.text image session out out' errors errors'
      → IsTurnSession files image turn status session out out' errors errors'
  answered status errors errors' ended = record {
    index = index;
    count = count;
    file = file;
    place = place;
    file_is = file_is;
    ended = ended;
  }

  -- by a text of its bytes, which is the file's
  module _ (name bytes : List ℕ) (more : ℕ) (name_is : file.name ≡ name) (count_is : more ≡ count)
      (same : (text : List ℕ) → IsJournal (Some bytes) text → text ≡ file.text) where
    so : (status : ℕ) (text : List ℕ) (errors errors' : Option (List ℕ)) → IsJournal (Some bytes) text
        → HasSessionStatus status name (Some more) text image session out out' errors errors'
        → HasSessionStatus status file.name (Some count) file.text image session out out' errors errors'
    so status text errors errors' is ended =
        subst (λ n. HasSessionStatus status n (Some count) file.text image session out out' errors errors') (sym name_is)
        (subst (λ n. HasSessionStatus status name (Some n) file.text image session out out' errors errors') count_is
        (subst (λ t. HasSessionStatus status name (Some more) t image session out out' errors errors') (same text is) ended))

    pub session_answered : {F : Type 0} (r : Result ℕ F) (errors errors' : Option (List ℕ))
        → IfOk r (λ s. (text : List ℕ) × IsJournal (Some bytes) text
        × HasSessionStatus s name (Some more) text image session out out' errors errors')
        → IfOk r (λ s. IsTurnSession files image turn s session out out' errors errors')
    session_answered (Ok s) errors errors' (text, is, ended) = answered s errors errors' (so s text errors errors' is ended)
    session_answered (Err e) errors errors' ended = tt

    pub session_unanswered : {F : Type 0} (r : Result ℕ F)
        → OnErr r ((text : List ℕ) × IsJournal (Some bytes) text × IsUntold (λ status before after.
        HasSessionStatus status name (Some more) text image session out out' before after))
        → OnErr r (IsUntoldSession files image turn session out out')
    session_unanswered (Ok s) untold = tt
    session_unanswered (Err e) (text, is, untold) =
        (untold.0, untold.1, answered untold.0 (Some []) (Some untold.1) (so untold.0 text (Some []) (Some untold.1) is untold.2))

-- with a session, or without one
module _ (files : List JournalText) (image : List ℕ) (turn : ℕ) (session out out' : Option (List ℕ)) where
  pub with_session : {F : Type 0} (r : Result ℕ F) (errors errors' : Option (List ℕ))
      → IfOk r (λ s. IsTurnSession files image turn s session out out' errors errors')
      → IfOk r (λ s. HasTurnStatus s files image turn session out out' errors errors')
  with_session (Ok s) errors errors' ended = inl ended
  with_session (Err e) errors errors' ended = tt

  pub with_session_untold : {F : Type 0} (r : Result ℕ F) → OnErr r (IsUntoldSession files image turn session out out')
      → OnErr r (IsUntoldTurn files image turn session out out')
  with_session_untold (Ok s) untold = tt
  with_session_untold (Err e) (status, report, ended) = (status, report, inl ended)

pub without_session : (files : List JournalText) (image : List ℕ) (turn : ℕ) (session out : Option (List ℕ))
    → IsUntoldLook files image turn → IsUntoldTurn files image turn session out out
without_session files image turn session out untold =
    let here = untold out in (here.0, here.1, inr here.2)

-- so a replay ended for texts of journals
module _ (names : List (Bor (List ℕ))) (known : List (Option (List ℕ))) (image : List ℕ) (turn : ℕ)
    (session out out' : Option (List ℕ)) where
  pub texts_ended : {F : Type 0} (r : Result ℕ F) (files : List JournalText) (errors errors' : Option (List ℕ))
      → AreTexts names known files → IfOk r (λ s. HasTurnStatus s files image turn session out out' errors errors')
      → IfOk r (λ s. (files : List JournalText) × AreTexts names known files
      × HasTurnStatus s files image turn session out out' errors errors')
  texts_ended (Ok s) files errors errors' are ended = (files, are, ended)
  texts_ended (Err e) files errors errors' are ended = tt

  pub texts_unended : {F : Type 0} (r : Result ℕ F) (files : List JournalText) → AreTexts names known files
      → OnErr r (IsUntoldTurn files image turn session out out')
      → OnErr r ((files : List JournalText) × AreTexts names known files × IsUntoldTurn files image turn session out out')
  texts_unended (Ok s) files are untold = tt
  texts_unended (Err e) files are untold = (files, are, untold)

-- journals that are not audited
module _ (names : List (Bor (List ℕ))) (known : List (Option (List ℕ))) (image : List ℕ) (turn : ℕ) (session out : Option (List ℕ))
    (fault : JournalsFault)
    (reason : (files : List JournalText) × AreTexts names known files × IsJournalsFault 4294967295 files image fault) where
  pub texts_refused : (errors errors' : Option (List ℕ)) → IsFaultTold (plain_names names) fault errors errors'
      → (files : List JournalText) × AreTexts names known files
      × HasTurnStatus 1 files image turn session out out errors errors'
  texts_refused errors errors' told = (
    reason.0,
    reason.1,
    inr (not_audited reason.0 image turn fault reason.2 out errors errors'
        (subst (λ ns. IsFaultTold ns fault errors errors') (named_same names known reason.0 reason.1) told)),
  )

  pub texts_refused_untold : (files : List JournalText) × AreTexts names known files
      × IsUntoldTurn files image turn session out out
  texts_refused_untold =
      (reason.0, reason.1, without_session reason.0 image turn session out (not_audited_untold reason.0 image turn fault reason.2))
