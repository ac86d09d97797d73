-- How replays of journals that are read from files end, and commands over journals that did not begin.
use Rattle.std.proofs.Common.{◌≡◌, ◌⊎◌, true, false, ℕ, List, [], ◌++◌, Option, None, Some, Result, Ok, Err, codes, inl, inr, refl, sym, subst}
use Rattle.std.specs.Borrow.{Bor}
use Rattle.std.specs.Io.KnownBytes.{Appends}
use Rattle.std.specs.Prelude.{OnErr}
use Rattle.std.specs.Result.{IfOk}
use Rattle.std.specs.Str.{bytes_eq}
use Rattle.rvm_arguments.specs.declared.arguments.ReplayArguments.{ReplayArguments}
use Rattle.rvm_command.specs.Command.{refused_text}
use Rattle.rvm_command.specs.declared.refused.Refused.{Refused}
use Rattle.rvm_command.specs.Refusals.{IsTold, refused}
use Rattle.rvm_journal.specs.Whole.{IsJournal}
use Rattle.rvm_journal.proofs.Reading.{has_journal}
use Rattle.rvm_replay.specs.Replays.{HasReplayStatus, HasSessionStatus, IsUntold}
use Rattle.rvm_program.specs.Ended.{IsAnswerEnd, IsFileOrNone, IsGiven, IsNotBegun, IsReplayEnd, IsReplayed, IsSession, ReplayEnded, ToTell, Written, written}
use Rattle.rvm_files.specs.Files.{IsFileRefusal, IsOpened, IsRefusedFile, Named, file_text}
use Rattle.rvm_refusal.specs.declared.refusal.Refusal.{Refusal}

module _ {F : Type 0} (r : Result ℕ F) (Ends : ℕ → Written → Type 0) (files : Named) where
  -- a file was refused, and that was reported
  pub file_ended : (name : List ℕ) (why : Refusal) (errors : Written) → IsRefusedFile (files name) why
      → IfOk r (λ status. (status ≡ 1) × Appends errors.before errors.after (file_text name why))
      → IfOk r (λ status. Ends status errors ⊎ ((status ≡ 1) × IsNotBegun files errors))
  file_ended name why errors reason told = of r told where
    of : (it : Result ℕ F) → IfOk it (λ status. (status ≡ 1) × Appends errors.before errors.after (file_text name why))
        → IfOk it (λ status. Ends status errors ⊎ ((status ≡ 1) × IsNotBegun files errors))
    of (Ok status) (one, is_told) = inr (one, inl (record { name = name; why = why; reason = reason; told = is_told }))
    of (Err fault) is_told = tt

  -- or was to be reported
  pub file_untold : (name : List ℕ) (why : Refusal) → IsRefusedFile (files name) why
      → OnErr r (ToTell (λ status errors. Ends status errors ⊎ ((status ≡ 1) × IsNotBegun files errors)))
  file_untold name why reason = of r where
    of : (it : Result ℕ F) → OnErr it (ToTell (λ status errors. Ends status errors ⊎ ((status ≡ 1) × IsNotBegun files errors)))
    of (Ok status) = tt
    of (Err fault) =
        (1, file_text name why, inr (refl, inl (record { name = name; why = why; reason = reason; told = refl })))

  -- there was no memory for a buffer, and that was reported
  pub buffer_ended : (why : Refusal) (errors : Written) → IsFileRefusal why → (it : Refused) → it ≡ refused why
      → IfOk r (λ status. (status ≡ 1) × IsTold it errors.before errors.after)
      → IfOk r (λ status. Ends status errors ⊎ ((status ≡ 1) × IsNotBegun files errors))
  buffer_ended why errors reason it is told =
      of r (subst (λ r'. IfOk r (λ status. (status ≡ 1) × IsTold r' errors.before errors.after)) is told) where
        of : (it : Result ℕ F) → IfOk it (λ status. (status ≡ 1) × IsTold (refused why) errors.before errors.after)
            → IfOk it (λ status. Ends status errors ⊎ ((status ≡ 1) × IsNotBegun files errors))
        of (Ok status) (one, is_told) = inr (one, inr (why, reason, is_told))
        of (Err fault) is_told = tt

  -- or was to be reported
  pub buffer_untold : (why : Refusal) → IsFileRefusal why
      → OnErr r (ToTell (λ status errors. Ends status errors ⊎ ((status ≡ 1) × IsNotBegun files errors)))
  buffer_untold why reason = of r where
    of : (it : Result ℕ F) → OnErr it (ToTell (λ status errors. Ends status errors ⊎ ((status ≡ 1) × IsNotBegun files errors)))
    of (Ok status) = tt
    of (Err fault) = (1, refused_text (refused why) ++ codes "\n", inr (refl, inr (why, reason, refl)))

-- a session was answered to a buffer that holds what the output does
module _ (a : ReplayArguments) (known : Option (List ℕ)) (read_image image : List ℕ) (session buffer before after : Option (List ℕ))
    (image_is : read_image ≡ image) (empty : buffer ≡ before) where
  session_end : (s : ℕ) (journal : List ℕ) (errors : Written)
      → HasSessionStatus s a.journal.now a.until journal read_image session buffer after errors.before errors.after
      → (told : Option (List ℕ)) × HasSessionStatus s a.journal.now a.until journal image session before told
      errors.before errors.after
  session_end s journal errors ended = (
    after,
    subst (λ i. HasSessionStatus s a.journal.now a.until journal i session before after errors.before errors.after) image_is
        (subst (λ b. HasSessionStatus s a.journal.now a.until journal read_image session b after
        errors.before errors.after) empty ended),
  )

  pub answer_end : {F : Type 0} (r : Result ℕ F) (errors : Written) (files : Named)
      → IfOk r (λ s. (journal : List ℕ) × IsJournal known journal
      × HasSessionStatus s a.journal.now a.until journal read_image session buffer after errors.before errors.after)
      → IfOk r (λ s. (journal : List ℕ) × IsJournal known journal × IsAnswerEnd s files a journal image session before errors)
  answer_end (Ok s) errors files (journal, is, ended) = (journal, is, inl (session_end s journal errors ended))
  answer_end (Err e) errors files ended = tt

  pub answer_untold : {F : Type 0} (r : Result ℕ F) (files : Named)
      → OnErr r ((journal : List ℕ) × IsJournal known journal
      × IsUntold (λ status errors errors'. HasSessionStatus status a.journal.now a.until journal read_image
      session buffer after errors errors'))
      → OnErr r ((journal : List ℕ) × IsJournal known journal
      × ToTell (λ status errors. IsAnswerEnd status files a journal image session before errors))
  answer_untold (Ok s) files untold = tt
  answer_untold (Err e) files (journal, is, untold) =
      (journal, is, (untold.0, untold.1, inl (session_end untold.0 journal (written (Some []) (Some untold.1)) untold.2)))

-- what ended so for any text of a journal, did for one
pub with_text : {F : Type 0} (r : Result ℕ F) (known : Option (List ℕ)) (P : List ℕ → ℕ → Type 0)
    → ((journal : List ℕ) → IfOk r (P journal)) → IfOk r (λ s. (journal : List ℕ) × IsJournal known journal × P journal s)
with_text (Ok s) known P ended = let any = has_journal known in (any.0, any.1, ended any.0)
with_text (Err e) known P ended = tt

pub with_text_untold : {F : Type 0} (r : Result ℕ F) (known : Option (List ℕ)) (P : List ℕ → Type 0)
    → ((journal : List ℕ) → OnErr r (P journal)) → OnErr r ((journal : List ℕ) × IsJournal known journal × P journal)
with_text_untold (Ok s) known P untold = tt
with_text_untold (Err e) known P untold = let any = has_journal known in (any.0, any.1, untold any.0)

-- a journal that is read from a file that was opened is the file's
pub given_journal : (known left : Option (List ℕ)) (journal : List ℕ) → IsOpened known left → IsJournal left journal
    → IsJournal known journal
given_journal None left journal opened is = tt
given_journal (Some bytes) left journal opened is = subst (λ k. IsJournal k journal) opened is

-- what was read of the files of a replay was replayed
module _ (files : Named) (a : ReplayArguments) (known : Option (List ℕ)) (image : List ℕ) (input : Option (List ℕ))
    (output : Written) where
  -- no session is named
  shown : (s : ℕ) (journal : List ℕ) (errors : Written) → a.script ≡ None
      → HasReplayStatus s a.journal.now a.until journal image output.before output.after errors.before errors.after
      → IsReplayed files a s journal image input output errors
  shown s journal errors none ended =
      inl (subst (λ name. IsReplayEnd files a name s journal image input output errors) (sym none) ended)

  pub show_ended : {F : Type 0} (r : Result ℕ F) (errors : Written) → a.script ≡ None
      → IfOk r (λ s. (journal : List ℕ) × IsJournal known journal × HasReplayStatus s a.journal.now a.until journal image
      output.before output.after errors.before errors.after)
      → IfOk r (λ s. (journal : List ℕ) × IsJournal known journal × IsReplayed files a s journal image input output errors)
  show_ended (Ok s) errors none (journal, is, ended) = (journal, is, shown s journal errors none ended)
  show_ended (Err e) errors none ended = tt

  pub show_untold : {F : Type 0} (r : Result ℕ F) → a.script ≡ None
      → OnErr r ((journal : List ℕ) × IsJournal known journal × ToTell (λ s errors. HasReplayStatus s a.journal.now a.until
      journal image output.before output.after errors.before errors.after))
      → OnErr r ((journal : List ℕ) × IsJournal known journal
      × ToTell (λ s errors. IsReplayed files a s journal image input output errors))
  show_untold (Ok s) none untold = tt
  show_untold (Err e) none (journal, is, untold) =
      (journal, is, (untold.0, untold.1, shown untold.0 journal (written (Some []) (Some untold.1)) none untold.2))

  -- a session was answered that is the one with the name
  module _ (name : Bor (List ℕ)) (session : Option (List ℕ)) (named : a.script ≡ Some name)
      (session_is : IsSession files name.now input session) where
    answered : (s : ℕ) (journal : List ℕ) (errors : Written) → IsAnswerEnd s files a journal image session output.before errors
        → IsReplayed files a s journal image input output errors
    answered s journal errors (inl ended) =
        inl (subst (λ it. IsReplayEnd files a it s journal image input output errors) (sym named) (record {
          session = session;
          told = ended.0;
          session_is = session_is;
          ended = ended.1;
        }))
    answered s journal errors (inr unbegun) = inr unbegun

    pub session_ended : {F : Type 0} (r : Result ℕ F) (errors : Written)
        → IfOk r (λ s. (journal : List ℕ) × IsJournal known journal
        × IsAnswerEnd s files a journal image session output.before errors)
        → IfOk r (λ s. (journal : List ℕ) × IsJournal known journal × IsReplayed files a s journal image input output errors)
    session_ended (Ok s) errors (journal, is, ended) = (journal, is, answered s journal errors ended)
    session_ended (Err e) errors ended = tt

    pub session_untold : {F : Type 0} (r : Result ℕ F)
        → OnErr r ((journal : List ℕ) × IsJournal known journal
        × ToTell (λ s errors. IsAnswerEnd s files a journal image session output.before errors))
        → OnErr r ((journal : List ℕ) × IsJournal known journal
        × ToTell (λ s errors. IsReplayed files a s journal image input output errors))
    session_untold (Ok s) untold = tt
    session_untold (Err e) (journal, is, untold) =
        (journal, is, (untold.0, untold.1, answered untold.0 journal (written (Some []) (Some untold.1)) untold.2))

  -- the files of the replay were read
  module _ (opened : IsOpened (files a.journal.now) known) (image_is : IsFileOrNone files a.image image) where
    replayed : (s : ℕ) (journal : List ℕ) (errors : Written) → IsJournal known journal
        → IsReplayed files a s journal image input output errors → ReplayEnded files a s input output errors
    replayed s journal errors is (inl ended) =
        inl (record {
          journal = journal;
          image = image;
          journal_is = given_journal (files a.journal.now) known journal opened is;
          image_is = image_is;
          ended = ended;
        })
    replayed s journal errors is (inr unbegun) = inr unbegun

    pub replay_ended : {F : Type 0} (r : Result ℕ F) (errors : Written)
        → IfOk r (λ s. (journal : List ℕ) × IsJournal known journal × IsReplayed files a s journal image input output errors)
        → IfOk r (λ s. ReplayEnded files a s input output errors)
    replay_ended (Ok s) errors (journal, is, ended) = replayed s journal errors is ended
    replay_ended (Err e) errors ended = tt

    pub replay_untold : {F : Type 0} (r : Result ℕ F)
        → OnErr r ((journal : List ℕ) × IsJournal known journal
        × ToTell (λ s errors. IsReplayed files a s journal image input output errors))
        → OnErr r (ToTell (λ s errors. ReplayEnded files a s input output errors))
    replay_untold (Ok s) untold = tt
    replay_untold (Err e) (journal, is, untold) =
        (untold.0, untold.1, replayed untold.0 journal (written (Some []) (Some untold.1)) is untold.2)

-- the session with the name `-` is standard input
pub standard_session : (files : Named) (name : List ℕ) (input : Option (List ℕ)) → bytes_eq name (codes "-") ≡ true
    → IsSession files name input input
standard_session files name input is = subst (λ b. IsGiven b (files name) input input) (sym is) refl

-- and any other is a file
pub file_session : (files : Named) (name : List ℕ) (input session : Option (List ℕ)) → bytes_eq name (codes "-") ≡ false
    → IsOpened (files name) session → IsSession files name input session
file_session files name input session is opened = subst (λ b. IsGiven b (files name) input session) (sym is) opened
