-- Journals that are read from files and audited.
use Rattle.std.proofs.Common.{◌≡◌, ◌∙◌, ◌<◌, ◌+◌, ℕ, zero, suc, List, [], ◌∷◌, ◌++◌, Option, None, Some, Result, Ok, Err, ap, refl, inl, inr, sym, subst, take, length, arith}
use Rattle.std.specs.Prelude.{OnErr, Vec, get_or, slice_get}
use Rattle.std.specs.Result.{IfOk}
use Rattle.std.specs.Borrow.{Bor}
use Rattle.std.specs.declared.alloc.Global.{Global}
use Rattle.std.proofs.lemmas.List.{length-map}
use Rattle.std.proofs.lemmas.Option.{none-some, same_Some, slice_get-get_or}
use Rattle.rvm_arguments.specs.declared.arguments.AuditJournalsArguments.{AuditJournalsArguments}
use Rattle.rvm_replay.specs.Findings.{HasAuditStatus, IsUntoldAudit}
use Rattle.rvm_replay.specs.Journals.{AreTexts, JournalText, known_in}
use Rattle.rvm_replay.specs.declared.audit.AuditText.{AuditText}
use Rattle.rvm_replay.specs.declared.audit.AuditText.TheVariants.{Chart}
use Rattle.rvm_replay.proofs.Worlds.{any_texts}
use Rattle.rvm_program.specs.Ended.{AreAuditedTo, AreGiven, AreJournals, IsAuditEnd, IsDrawnEnd, IsShownEnd, JournalsEnded, ToTell, Written, text_of, written}
use Rattle.rvm_program.proofs.ReplayEnds.{given_journal}
use Rattle.rvm_files.specs.Files.{IsCreated, IsFile, IsOpened, Named}

after_one : (files : Named) (names : List (Bor (List ℕ))) (i : ℕ) (ks : List (Option (List ℕ))) (n : Bor (List ℕ))
    (k : Option (List ℕ)) → AreGiven files (take i names) ks → slice_get names i ≡ Some n → IsOpened (files n.now) k
    → AreGiven files (take (suc i) names) (ks ++ k ∷ [])
after_one files [] i ks n k are at is = absurd (none-some n at)
after_one files (m ∷ ms) zero [] n k are at is =
    (subst (λ l. IsOpened (files l.now) k) (sym (same_Some m n at)) is, tt)
after_one files (m ∷ ms) zero (x ∷ xs) n k are at is = absurd are
after_one files (m ∷ ms) (suc i) [] n k are at is = absurd are
after_one files (m ∷ ms) (suc i) (x ∷ xs) n k are at is = (are.0, after_one files ms i xs n k are.1 at is)

-- one more journal was opened or read
pub one_given : (files : Named) (names : List (Bor (List ℕ))) (i : ℕ) (ks after : List (Option (List ℕ))) (d : Bor (List ℕ))
    (k : Option (List ℕ)) → AreGiven files (take i names) ks → i < length names → IsOpened (files (get_or names i d).now) k
    → after ≡ ks ++ k ∷ [] → AreGiven files (take (i + 1) names) after
one_given files names i ks after d k are below is last =
    let next : suc i ≡ i + 1 = omega arith in
    subst (λ l. AreGiven files (take l names) after) next
    (subst (AreGiven files (take (suc i) names)) (sym last)
    (after_one files names i ks (get_or names i d) k are (slice_get-get_or names i d below) is))

-- all bytes of a file
pub file_given : (known : Option (List ℕ)) (bytes : List ℕ) → IsFile known bytes → IsOpened known (Some bytes)
file_given None bytes is = tt
file_given (Some all) bytes is = ap Some is

-- there are as many as names
pub given_long : (files : Named) (names : List (Bor (List ℕ))) (known : List (Option (List ℕ))) → AreGiven files names known
    → length names ≡ length known
given_long files [] [] are = refl
given_long files [] (k ∷ ks) are = absurd are
given_long files (n ∷ ns) [] are = absurd are
given_long files (n ∷ ns) (k ∷ ks) are = ap suc (given_long files ns ks are.1)

pub read_long : (files : Named) (names : List (Bor (List ℕ))) (journals : List (Vec ℕ Global))
    → AreGiven files names (known_in journals) → length names ≡ length journals
read_long files names journals are =
    given_long files names (known_in journals) are ∙ length-map journals (λ (v : Vec ℕ Global). Some v.items)

-- journals that are read from files that were opened are those of the files
pub given_texts : (files : Named) (names : List (Bor (List ℕ))) (known : List (Option (List ℕ))) (journals : List JournalText)
    → AreGiven files names known → AreTexts names known journals → AreJournals files names journals
given_texts files [] [] [] given are = tt
given_texts files [] [] (j ∷ js) given are = absurd are
given_texts files [] (k ∷ ks) js given are = absurd given
given_texts files (n ∷ ns) [] js given are = absurd given
given_texts files (n ∷ ns) (k ∷ ks) [] given are = absurd are
given_texts files (n ∷ ns) (k ∷ ks) (j ∷ js) given are =
    (are.0, given_journal (files n.now) k j.text given.0 are.1, given_texts files ns ks js given.1 are.2)

-- what ended so for any texts of journals, did for some
pub with_texts : {F : Type 0} (r : Result ℕ F) (names : List (Bor (List ℕ))) (known : List (Option (List ℕ)))
    (P : List JournalText → ℕ → Type 0) → length names ≡ length known
    → ((journals : List JournalText) → IfOk r (P journals))
    → IfOk r (λ s. (journals : List JournalText) × AreTexts names known journals × P journals s)
with_texts (Ok s) names known P long ended = let any = any_texts names known long in (any.0, any.1, ended any.0)
with_texts (Err e) names known P long ended = tt

pub with_texts_untold : {F : Type 0} (r : Result ℕ F) (names : List (Bor (List ℕ))) (known : List (Option (List ℕ)))
    (P : List JournalText → Type 0) → length names ≡ length known → ((journals : List JournalText) → OnErr r (P journals))
    → OnErr r ((journals : List JournalText) × AreTexts names known journals × P journals)
with_texts_untold (Ok s) names known P long untold = tt
with_texts_untold (Err e) names known P long untold =
    let any = any_texts names known long in (any.0, any.1, untold any.0)

-- there are as many texts as journals that were read
pub as_many_known : (names : List (Bor (List ℕ))) (journals : List (Vec ℕ Global)) → length names ≡ length journals
    → length names ≡ length (known_in journals)
as_many_known names journals long = long ∙ sym (length-map journals (λ (v : Vec ℕ Global). Some v.items))

-- `audit-journals` was given its files
module _ (files created : Named) (a : AuditJournalsArguments) (known : List (Option (List ℕ))) (image : List ℕ)
    (given : AreGiven files a.journals.items known) (image_is : IsFile (files a.image.now) image)
    (names : List (Bor (List ℕ))) (read_image : List ℕ) (names_are : names ≡ a.journals.items) (read : read_image ≡ image) where
  these : (journals : List JournalText) → AreTexts names known journals → AreTexts a.journals.items known journals
  these journals are = subst (λ ns. AreTexts ns known journals) names_are are

  has_audited : (s : ℕ) (journals : List JournalText) (output : Option (List ℕ)) (errors : Written)
      → AreTexts a.journals.items known journals → IsShownEnd files created a a.chart s journals image output errors
      → JournalsEnded files created a s output errors
  has_audited s journals output errors are (inl shown) =
      inl (record {
        journals = journals;
        image = image;
        journals_are = given_texts files a.journals.items known journals given are;
        image_is = image_is;
        shown = shown;
      })
  has_audited s journals output errors are (inr unbegun) = inr unbegun

  -- without a chart, the order or a summary was written
  module _ (none : a.chart ≡ None) (text : AuditText) (is : text ≡ text_of a.order) (output : Option (List ℕ)) where
    plainly : (s : ℕ) (journals : List JournalText) (errors : Written)
        → IsAuditEnd s files journals read_image text output errors
        → IsShownEnd files created a a.chart s journals image output errors
    plainly s journals errors ended =
        subst (λ named. IsShownEnd files created a named s journals image output errors) (sym none)
        (subst (λ asked. IsAuditEnd s files journals image asked output errors) is
        (subst (λ i. IsAuditEnd s files journals i text output errors) read ended))

    pub shown_ended : {F : Type 0} (r : Result ℕ F) (errors : Written)
        → IfOk r (λ s. (journals : List JournalText) × AreTexts names known journals
        × IsAuditEnd s files journals read_image text output errors)
        → IfOk r (λ s. JournalsEnded files created a s output errors)
    shown_ended (Ok s) errors (journals, are, ended) =
        has_audited s journals output errors (these journals are) (plainly s journals errors ended)
    shown_ended (Err e) errors ended = tt

    pub shown_untold : {F : Type 0} (r : Result ℕ F)
        → OnErr r ((journals : List JournalText) × AreTexts names known journals
        × ToTell (λ s errors. IsAuditEnd s files journals read_image text output errors))
        → OnErr r (ToTell (λ s errors. JournalsEnded files created a s output errors))
    shown_untold (Ok s) untold = tt
    shown_untold (Err e) (journals, are, untold) =
        let told = written (Some []) (Some untold.1) in
        (untold.0, untold.1, has_audited untold.0 journals output told (these journals are) (plainly untold.0 journals told untold.2))

  -- with one, it was written to its file
  module _ (name : Bor (List ℕ)) (named : a.chart ≡ Some name) (output : Option (List ℕ)) where
    drawn : (s : ℕ) (journals : List JournalText) (errors : Written)
        → IsDrawnEnd files created name.now s journals read_image errors
        → IsShownEnd files created a a.chart s journals image output errors
    drawn s journals errors ended =
        subst (λ it. IsShownEnd files created a it s journals image output errors) (sym named)
        (subst (λ i. IsDrawnEnd files created name.now s journals i errors) read ended)

    pub drawn_ended : {F : Type 0} (r : Result ℕ F) (errors : Written)
        → IfOk r (λ s. (journals : List JournalText) × AreTexts names known journals
        × IsDrawnEnd files created name.now s journals read_image errors)
        → IfOk r (λ s. JournalsEnded files created a s output errors)
    drawn_ended (Ok s) errors (journals, are, ended) =
        has_audited s journals output errors (these journals are) (drawn s journals errors ended)
    drawn_ended (Err e) errors ended = tt

    pub drawn_untold : {F : Type 0} (r : Result ℕ F)
        → OnErr r ((journals : List JournalText) × AreTexts names known journals
        × ToTell (λ s errors. IsDrawnEnd files created name.now s journals read_image errors))
        → OnErr r (ToTell (λ s errors. JournalsEnded files created a s output errors))
    drawn_untold (Ok s) untold = tt
    drawn_untold (Err e) (journals, are, untold) =
        let told = written (Some []) (Some untold.1) in
        (untold.0, untold.1, has_audited untold.0 journals output told (these journals are) (drawn untold.0 journals told untold.2))

-- what was asked for was written to a buffer that holds what the output does
module _ (names : List (Bor (List ℕ))) (known : List (Option (List ℕ))) (image : List ℕ) (text : AuditText)
    (buffer before after : Option (List ℕ)) (empty : buffer ≡ before) where
  audited_with : (s : ℕ) (journals : List JournalText) (errors : Written)
      → HasAuditStatus s journals image text buffer after errors.before errors.after
      → AreAuditedTo s journals image text before errors
  audited_with s journals errors audited =
      (after, subst (λ b. HasAuditStatus s journals image text b after errors.before errors.after) empty audited)

  pub audited_to : {F : Type 0} (r : Result ℕ F) (errors : Written)
      → IfOk r (λ s. (journals : List JournalText) × AreTexts names known journals
      × HasAuditStatus s journals image text buffer after errors.before errors.after)
      → (named : Named) → IfOk r (λ s. (journals : List JournalText) × AreTexts names known journals
      × IsAuditEnd s named journals image text before errors)
  audited_to (Ok s) errors (journals, are, audited) named = (journals, are, inl (audited_with s journals errors audited))
  audited_to (Err e) errors audited named = tt

  -- or was to be reported
  pub audit_untold : {F : Type 0} (r : Result ℕ F)
      → OnErr r ((journals : List JournalText) × AreTexts names known journals
      × IsUntoldAudit journals image text buffer after)
      → (named : Named) → OnErr r ((journals : List JournalText) × AreTexts names known journals
      × ToTell (λ s errors. IsAuditEnd s named journals image text before errors))
  audit_untold (Ok s) untold named = tt
  audit_untold (Err e) (journals, are, untold) named = (
    journals,
    are,
    (untold.0, untold.1, inl (audited_with untold.0 journals (written (Some []) (Some untold.1)) untold.2)),
  )

-- the chart was written to a file that was created
module _ (files created : Named) (name : List ℕ) (names : List (Bor (List ℕ))) (given known : List (Option (List ℕ)))
    (read_image image : List ℕ) (held : Option (List ℕ)) (known_are : given ≡ known) (image_is : read_image ≡ image) (held_is : IsCreated (created name) held) where
  drawn_of : (s : ℕ) (journals : List JournalText) (errors : Written)
      → IsAuditEnd s files journals image Chart held errors → IsDrawnEnd files created name s journals image errors
  drawn_of s journals errors (inl audited) = inl (record { held = held; held_is = held_is; audited = audited })
  drawn_of s journals errors (inr unbegun) = inr unbegun

  drawn_so : (s : ℕ) (journals : List JournalText) (errors : Written)
      → IsAuditEnd s files journals read_image Chart held errors → IsDrawnEnd files created name s journals image errors
  drawn_so s journals errors ended =
      drawn_of s journals errors (subst (λ i. IsAuditEnd s files journals i Chart held errors) image_is ended)

  the_texts : (journals : List JournalText) → AreTexts names given journals → AreTexts names known journals
  the_texts journals are = subst (λ ks. AreTexts names ks journals) known_are are

  pub chart_drawn : {F : Type 0} (r : Result ℕ F) (errors : Written)
      → IfOk r (λ s. (journals : List JournalText) × AreTexts names given journals
      × IsAuditEnd s files journals read_image Chart held errors)
      → IfOk r (λ s. (journals : List JournalText) × AreTexts names known journals
      × IsDrawnEnd files created name s journals image errors)
  chart_drawn (Ok s) errors (journals, are, ended) =
      (journals, the_texts journals are, drawn_so s journals errors ended)
  chart_drawn (Err e) errors ended = tt

  pub chart_untold : {F : Type 0} (r : Result ℕ F)
      → OnErr r ((journals : List JournalText) × AreTexts names given journals
      × ToTell (λ s errors. IsAuditEnd s files journals read_image Chart held errors))
      → OnErr r ((journals : List JournalText) × AreTexts names known journals
      × ToTell (λ s errors. IsDrawnEnd files created name s journals image errors))
  chart_untold (Ok s) untold = tt
  chart_untold (Err e) (journals, are, untold) =
      (journals, the_texts journals are, (untold.0, untold.1, drawn_so untold.0 journals (written (Some []) (Some untold.1)) untold.2))
