-- How replays up to a turn end, of journals that are read from files.
use Rattle.std.proofs.Common.{◌≡◌, ℕ, List, [], Option, Some, Result, Ok, Err, inl, inr, subst}
use Rattle.std.specs.Prelude.{OnErr}
use Rattle.std.specs.Result.{IfOk}
use Rattle.std.specs.Borrow.{Bor}
use Rattle.rvm_arguments.specs.declared.arguments.ReplayTurnsArguments.{ReplayTurnsArguments}
use Rattle.rvm_replay.specs.Turns.{HasTurnStatus, IsUntoldTurn}
use Rattle.rvm_replay.specs.Journals.{AreTexts, JournalText}
use Rattle.rvm_program.specs.Ended.{AreGiven, AreTurnsMade, IsSession, IsTurnsAnswer, IsTurnsAnswerEnd, ToTell, TurnsEnded, Written, written}
use Rattle.rvm_program.proofs.AuditedFiles.{given_texts}
use Rattle.rvm_files.specs.Files.{IsFile, Named}

-- a session was answered to a buffer that holds what the output does
module _ (a : ReplayTurnsArguments) (names : List (Bor (List ℕ))) (given known : List (Option (List ℕ)))
    (read_image image : List ℕ) (session buffer before after : Option (List ℕ)) (names_are : names ≡ a.journals.items)
    (known_are : given ≡ known) (image_is : read_image ≡ image) (empty : buffer ≡ before) where
  these : (journals : List JournalText) → AreTexts names given journals → AreTexts a.journals.items known journals
  these journals are =
      subst (λ ns. AreTexts ns known journals) names_are (subst (λ ks. AreTexts names ks journals) known_are are)

  answered_with : (s : ℕ) (journals : List JournalText) (errors : Written)
      → HasTurnStatus s journals read_image a.turns session buffer after errors.before errors.after
      → IsTurnsAnswer a s journals image session before errors
  answered_with s journals errors ended = (
    after,
    subst (λ i. HasTurnStatus s journals i a.turns session before after errors.before errors.after) image_is
        (subst (λ b. HasTurnStatus s journals read_image a.turns session b after errors.before errors.after) empty ended),
  )

  pub turns_answered : {F : Type 0} (r : Result ℕ F) (errors : Written) (files : Named)
      → IfOk r (λ s. (journals : List JournalText) × AreTexts names given journals
      × HasTurnStatus s journals read_image a.turns session buffer after errors.before errors.after)
      → IfOk r (λ s. (journals : List JournalText) × AreTexts a.journals.items known journals
      × IsTurnsAnswerEnd s files a journals image session before errors)
  turns_answered (Ok s) errors files (journals, are, ended) =
      (journals, these journals are, inl (answered_with s journals errors ended))
  turns_answered (Err e) errors files ended = tt

  pub turns_unanswered : {F : Type 0} (r : Result ℕ F) (files : Named)
      → OnErr r ((journals : List JournalText) × AreTexts names given journals
      × IsUntoldTurn journals read_image a.turns session buffer after)
      → OnErr r ((journals : List JournalText) × AreTexts a.journals.items known journals
      × ToTell (λ s errors. IsTurnsAnswerEnd s files a journals image session before errors))
  turns_unanswered (Ok s) files untold = tt
  turns_unanswered (Err e) files (journals, are, untold) = (
    journals,
    these journals are,
    (untold.0, untold.1, inl (answered_with untold.0 journals (written (Some []) (Some untold.1)) untold.2)),
  )

module _ (files : Named) (a : ReplayTurnsArguments) (known : List (Option (List ℕ))) (image : List ℕ)
    (input output : Option (List ℕ)) where
  -- the session that is named was answered
  module _ (session : Option (List ℕ)) (session_is : IsSession files a.script.now input session) where
    made : (s : ℕ) (journals : List JournalText) (errors : Written)
        → IsTurnsAnswerEnd s files a journals image session output errors
        → AreTurnsMade files a s journals image input output errors
    made s journals errors (inl answered) =
        inl (record { session = session; session_is = session_is; answered = answered })
    made s journals errors (inr unbegun) = inr unbegun

    pub turns_made : {F : Type 0} (r : Result ℕ F) (errors : Written)
        → IfOk r (λ s. (journals : List JournalText) × AreTexts a.journals.items known journals
        × IsTurnsAnswerEnd s files a journals image session output errors)
        → IfOk r (λ s. (journals : List JournalText) × AreTexts a.journals.items known journals
        × AreTurnsMade files a s journals image input output errors)
    turns_made (Ok s) errors (journals, are, ended) = (journals, are, made s journals errors ended)
    turns_made (Err e) errors ended = tt

    pub turns_unmade : {F : Type 0} (r : Result ℕ F)
        → OnErr r ((journals : List JournalText) × AreTexts a.journals.items known journals
        × ToTell (λ s errors. IsTurnsAnswerEnd s files a journals image session output errors))
        → OnErr r ((journals : List JournalText) × AreTexts a.journals.items known journals
        × ToTell (λ s errors. AreTurnsMade files a s journals image input output errors))
    turns_unmade (Ok s) untold = tt
    turns_unmade (Err e) (journals, are, untold) =
        (journals, are, (untold.0, untold.1, made untold.0 journals (written (Some []) (Some untold.1)) untold.2))

  -- `replay --turns` was given its files
  module _ (given : AreGiven files a.journals.items known) (image_is : IsFile (files a.image.now) image) where
    has_made : (s : ℕ) (journals : List JournalText) (errors : Written) → AreTexts a.journals.items known journals
        → AreTurnsMade files a s journals image input output errors → TurnsEnded files a s input output errors
    has_made s journals errors are (inl ended) =
        inl (record {
          journals = journals;
          image = image;
          journals_are = given_texts files a.journals.items known journals given are;
          image_is = image_is;
          ended = ended;
        })
    has_made s journals errors are (inr unbegun) = inr unbegun

    pub turns_ended : {F : Type 0} (r : Result ℕ F) (errors : Written)
        → IfOk r (λ s. (journals : List JournalText) × AreTexts a.journals.items known journals
        × AreTurnsMade files a s journals image input output errors)
        → IfOk r (λ s. TurnsEnded files a s input output errors)
    turns_ended (Ok s) errors (journals, are, ended) = has_made s journals errors are ended
    turns_ended (Err e) errors ended = tt

    pub turns_untold : {F : Type 0} (r : Result ℕ F)
        → OnErr r ((journals : List JournalText) × AreTexts a.journals.items known journals
        × ToTell (λ s errors. AreTurnsMade files a s journals image input output errors))
        → OnErr r (ToTell (λ s errors. TurnsEnded files a s input output errors))
    turns_untold (Ok s) untold = tt
    turns_untold (Err e) (journals, are, untold) =
        (untold.0, untold.1, has_made untold.0 journals (written (Some []) (Some untold.1)) are untold.2)
