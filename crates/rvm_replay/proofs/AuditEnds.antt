-- How an audit of journals ended.
use Rattle.std.proofs.Common.{arith, ◌≡◌, ◌∙◌, ℕ, zero, suc, Bool, true, false, List, [], ◌∷◌, ◌++◌, ◌+◌, length, length-append, map, Option, Some, Result, Ok, Err, codes, refl, ap, get_or, subst, sym, take, ◌<◌, inl, inr}
use Rattle.std.specs.Prelude.{IfOk, OnErr, OnOk, slice_get, ◌≤◌}
use Rattle.std.proofs.lemmas.List.{length-map, map-append, take_more}
use Rattle.rvm_audit.specs.Outlines.{AreOutlinesOf, IsOutlineOf, PlainOutline, outlines_in}
use Rattle.rvm_audit.proofs.Outlined.{outlined_more}
use Rattle.std.specs.Io.KnownBytes.{Appends}
use denote.Ref.{Bor}
use Rattle.rvm_audit.specs.Audits.{IsAudit, histories_of}
use Rattle.rvm_audit.specs.Cuts.{AreContradicted, AreExplained}
use Rattle.rvm_audit.specs.ListOrders.{journals_of}
use Rattle.rvm_audit.specs.Orders.{IsDeadEnd, IsOrder, Journals, cut}
use Rattle.rvm_audit.specs.Parts.{taken}
use Rattle.rvm_audit.specs.Worlds.{AreNew, IsWorldRun}
use Rattle.rvm_audit.specs.declared.list.Audit.TheVariants.{NoOrder}
use Rattle.rvm_board.specs.Guest.{GuestState}
use Rattle.rvm_command.specs.Command.{refused_text}
use Rattle.rvm_command.specs.Refusals.{IsTold, refused}
use Rattle.rvm_core.specs.declared.event.Event.{Event}
use Rattle.rvm_guest.specs.TheGuest.{board}
use Rattle.rvm_guest.specs.Valid.{is_valid}
use Rattle.rvm_protocol.specs.World.{new_world}
use Rattle.rvm_recorder.specs.History.{History, Recording, count_of}
use Rattle.rvm_refusal.specs.declared.refusal.Refusal.TheVariants as refusal
use Rattle.rvm_replay.specs.Audited.{AreReplayed, IsWritten, journals_in}
use Rattle.rvm_replay.specs.Findings.{EndsAt, capacity_of, text_of, HasAuditStatus, IsExtent, HasFindingStatus, HasNoOrder, IsFaultTold, IsUnordered, IsUntoldAudit, IsUntoldFinding, IsUntoldNoOrder, cuts_of, histories_in, is_cut, name_of, refuted_text, undecided_text}
use Rattle.rvm_replay.specs.FileFaults.{fault_line}
use Rattle.rvm_replay.specs.Unaudited.{IsJournalsFault}
use Rattle.rvm_replay.specs.declared.audit.AuditText.{AuditText}
use Rattle.rvm_replay.specs.declared.audit.Extent.{Extent}
use Rattle.rvm_replay.specs.declared.audit.OrderText.{OrderText}
use Rattle.rvm_replay.specs.declared.audit.OrderText.TheVariants.{Events, Chart}
use Rattle.rvm_replay.specs.declared.audit.Unordered.TheVariants.{Contradicted, Undecided}
use Rattle.rvm_replay.specs.Journals.{AreTexts, JournalText, names_in, plain_names}
use Rattle.rvm_replay.specs.declared.file.JournalsFault.{JournalsFault}
use Rattle.rvm_replay.specs.declared.file.JournalsFault.TheVariants as journals
use Rattle.rvm_replay.proofs.OneWorld.{has_one_guest}
use Rattle.rvm_replay.proofs.Worlds.{named_same}

-- a merge ended before all was taken, up to these places
pub ends_at : (all : List Recording) (places : ℕ → ℕ)
    → IsDeadEnd (journals_in all) places × ((events : List Event) × IsOrder (cut places (journals_in all)) events)
    → EndsAt all places
ends_at all places end = record { dead = end.0; events = end.1.0; order = end.1.1 }

-- how far they have an order
pub extent_is : (all : List Recording) (extent : Extent)
    → IsDeadEnd (journals_in all) (taken extent.places.items)
    × ((events : List Event) × IsOrder (cut (taken extent.places.items) (journals_in all)) events)
    → extent.counts.items ≡ map count_of all → IsExtent all extent
extent_is all extent end counts_are = record { ends = ends_at all (taken extent.places.items) end; counts_are = counts_are }

-- there are as many numbers as hosts
pub few_counts : (all : List Recording) (counts : List ℕ) → counts ≡ map count_of all → length all ≤ 8 → length counts ≤ 8
few_counts all counts is few =
    let size = ap length is in omega (arith, size, few, length-map all (λ (r : Recording). count_of r))

-- journals that have no order contradict one another, or what was cut off may explain that
module _ (files : List JournalText) (all : List Recording) (js js1 js2 : List (Bor History)) (extent : Extent) (cuts cuts' : List Bool)
    (same : histories_of js ≡ histories_in all) (is1 : js1 ≡ js) (is2 : js2 ≡ js)
    (audit : IsAudit (journals_of (histories_of js1)) (NoOrder extent.places)) (counts_are : extent.counts.items ≡ map count_of all)
    (marks : cuts ≡ cuts_of files (length all)) (marked_are : cuts' ≡ cuts) (found : Bool) where
  there : IsExtent all extent
  there = extent_is all extent
      (subst (λ hs. IsAudit (journals_of hs) (NoOrder extent.places)) (ap histories_of is1 ∙ same) audit) counts_are

  pub contradicted_if : (found ≡ true → AreContradicted (histories_of js2) cuts') → found ≡ true
      → IsUnordered files all (Contradicted extent)
  contradicted_if holds is = (
    there,
    subst (λ hs. AreContradicted hs (cuts_of files (length all))) (ap histories_of is2 ∙ same)
        (subst (AreContradicted (histories_of js2)) (marked_are ∙ marks) (holds is)),
  )

  pub explained_if : (found ≡ false → AreExplained (histories_of js2) cuts') → found ≡ false
      → IsUnordered files all (Undecided extent)
  explained_if holds is = (
    there,
    subst (λ hs. AreExplained hs (cuts_of files (length all))) (ap histories_of is2 ∙ same)
        (subst (AreExplained (histories_of js2)) (marked_are ∙ marks) (holds is)),
  )

-- the same of outlines
module _ (files : List JournalText) (all : List Recording) (extent : Extent) (cuts cuts' : List Bool) (there : IsExtent all extent)
    (marks : cuts ≡ cuts_of files (length all)) (marked_are : cuts' ≡ cuts) (found : Bool) where
  pub outlines_contradicted : (found ≡ true → AreContradicted (histories_in all) cuts') → found ≡ true
      → IsUnordered files all (Contradicted extent)
  outlines_contradicted holds is = (there, subst (AreContradicted (histories_in all)) (marked_are ∙ marks) (holds is))

  pub outlines_explained : (found ≡ false → AreExplained (histories_in all) cuts') → found ≡ false
      → IsUnordered files all (Undecided extent)
  outlines_explained holds is = (there, subst (AreExplained (histories_in all)) (marked_are ∙ marks) (holds is))

-- a fault of journals whose events are asked for
pub events_fault : (files : List JournalText) (image : List ℕ) (text : OrderText) (fault : JournalsFault)
    → IsJournalsFault 4294967295 files image fault → IsJournalsFault (capacity_of (text_of text)) files image fault
events_fault files image Events fault is = is
events_fault files image Chart fault is = is

-- for each host there is a mark
pub marks_long : (files : List JournalText) (n : ℕ) → length (cuts_of files n) ≡ n
marks_long files zero = refl
marks_long files (suc x) = length-append (cuts_of files x) (is_cut files x ∷ []) ∙ ap (λ k. k + 1) (marks_long files x) ∙ omega arith

-- the journals have no order, which was reported
module _ (files : List JournalText) (all : List Recording) (errors errors' : Option (List ℕ)) where
  pub refuted : (places : ℕ → ℕ) → EndsAt all places → AreContradicted (histories_in all) (cuts_of files (length all))
      → Appends errors errors' (refuted_text files all places) → HasNoOrder 1 files all errors errors'
  refuted places ends is told = record { places = places; ends = ends; contradicted = is; told = told }

  pub undecided : (places : ℕ → ℕ) → EndsAt all places → AreExplained (histories_in all) (cuts_of files (length all))
      → Appends errors errors' (undecided_text files all places) → HasNoOrder 3 files all errors errors'
  undecided places ends is told = record { places = places; ends = ends; explained = is; told = told }

  no_order : (status : ℕ) (text : AuditText) (out : Option (List ℕ)) → HasNoOrder status files all errors errors'
      → HasFindingStatus status files all text out out errors errors'
  no_order zero text out none = absurd none
  no_order (suc zero) text out is = inl (is, refl)
  no_order (suc (suc zero)) text out none = absurd none
  no_order (suc (suc (suc zero))) text out is = (is, refl)
  no_order (suc (suc (suc (suc n)))) text out none = absurd none

  pub no_order_found : {F : Type 0} (r : Result ℕ F) (text : AuditText) (out : Option (List ℕ))
      → IfOk r (λ s. HasNoOrder s files all errors errors')
      → IfOk r (λ s. HasFindingStatus s files all text out out errors errors')
  no_order_found (Ok s) text out is = no_order s text out is
  no_order_found (Err e) text out is = tt

  -- such a status is not 0
  pub not_zero : {F : Type 0} (P : Type 0) (r : Result ℕ F) → IfOk r (λ s. HasNoOrder s files all errors errors')
      → IfOk r (λ s. s ≡ 0 → P)
  not_zero P (Ok s) is = λ zero. absurd (subst (λ n. HasNoOrder n files all errors errors') zero is)
  not_zero P (Err e) is = tt

-- the same, where a report is not complete
module _ (files : List JournalText) (all : List Recording) where
  pub refuted_untold : (places : ℕ → ℕ) → EndsAt all places
      → AreContradicted (histories_in all) (cuts_of files (length all)) → IsUntoldNoOrder files all
  refuted_untold places ends is =
      let report = refuted_text files all places in
      (1, report, refuted files all (Some []) (Some report) places ends is refl)

  pub undecided_untold : (places : ℕ → ℕ) → EndsAt all places
      → AreExplained (histories_in all) (cuts_of files (length all)) → IsUntoldNoOrder files all
  undecided_untold places ends is =
      let report = undecided_text files all places in
      (3, report, undecided files all (Some []) (Some report) places ends is refl)

  pub no_order_untold : {F : Type 0} (r : Result ℕ F) (text : AuditText) (out : Option (List ℕ))
      → OnErr r (IsUntoldNoOrder files all) → OnErr r (IsUntoldFinding files all text out out)
  no_order_untold (Ok s) text out untold = tt
  no_order_untold (Err e) text out (s, report, is) =
      (s, report, no_order files all (Some []) (Some report) s text out is)

module _ (files : List JournalText) (all : List Recording) (text : AuditText) (out out' errors errors' : Option (List ℕ)) where
  -- memory ran out, which was reported
  pub out_of_memory : IsTold (refused refusal.OutOfMemory) errors errors' → out' ≡ out
      → HasFindingStatus 1 files all text out out' errors errors'
  out_of_memory told same = inr (inl (told, same))

  -- a write failed, which was reported
  pub unwritten : IsTold (refused refusal.LinkFault) errors errors' → HasFindingStatus 1 files all text out out' errors errors'
  unwritten told = inr (inr told)

  -- the order was written
  pub in_order : (events : List Event) → IsOrder (journals_in all) events → IsWritten text all events out out' → errors' ≡ errors
      → HasFindingStatus 0 files all text out out' errors errors'
  in_order events order written same = (record { events = events; order = order; written = written }, same)

-- the same, where a report is not complete
module _ (files : List JournalText) (all : List Recording) (text : AuditText) (out out' : Option (List ℕ)) where
  pub memory_untold : out' ≡ out → IsUntoldFinding files all text out out'
  memory_untold same =
      let report = refused_text (refused refusal.OutOfMemory) ++ codes "\n" in
      (1, report, out_of_memory files all text out out' (Some []) (Some report) refl same)

  pub unwritten_untold : IsUntoldFinding files all text out out'
  unwritten_untold =
      let report = refused_text (refused refusal.LinkFault) ++ codes "\n" in
      (1, report, unwritten files all text out out' (Some []) (Some report) refl)

-- what was found of replayed journals is what the audit found
module _ (files : List JournalText) (image : List ℕ) (all : List Recording) (are : AreReplayed files image all)
    (law : (version origin : ℕ) (g : GuestState) (limits : ℕ → ℕ) (j : Journals) (events : List Event)
    → is_valid g.guest ≡ true → AreNew version origin g limits j.openings → IsOrder j events
    → IsWorldRun (new_world board version origin g.guest j.openings.count limits) origin g.guest j events)
    (text : AuditText) (out out' : Option (List ℕ)) where
  audited : (status : ℕ) (errors errors' : Option (List ℕ)) → HasFindingStatus status files all text out out' errors errors'
      → HasAuditStatus status files image text out out' errors errors'
  audited zero errors errors' (ordered, same) = (
    record {
      all = all;
      replayed = are;
      ordered = ordered;
      one_guest = has_one_guest files image all ordered.events are ordered.order law;
    },
    same,
  )
  audited (suc zero) errors errors' found = inr (record { all = all; replayed = are; found = found })
  audited (suc (suc zero)) errors errors' none = absurd none
  audited (suc (suc (suc zero))) errors errors' (undecided, same) =
      record { all = all; replayed = are; undecided = undecided; same = same }
  audited (suc (suc (suc (suc n)))) errors errors' none = absurd none

  pub all_audited : {E : Type 0} (r : Result ℕ E) (errors errors' : Option (List ℕ))
      → IfOk r (λ s. HasFindingStatus s files all text out out' errors errors')
      → IfOk r (λ s. HasAuditStatus s files image text out out' errors errors')
  all_audited (Ok s) errors errors' found = audited s errors errors' found
  all_audited (Err e) errors errors' found = tt

  pub all_untold : {E : Type 0} (r : Result ℕ E) → OnErr r (IsUntoldFinding files all text out out')
      → OnErr r (IsUntoldAudit files image text out out')
  all_untold (Ok s) untold = tt
  all_untold (Err e) untold = (untold.0, untold.1, audited untold.0 (Some []) (Some untold.1) untold.2)

-- the report of why journals are not audited
pub told_of : (names : List (List ℕ)) (f : JournalsFault) → (report : List ℕ) × IsFaultTold names f (Some []) (Some report)
told_of names journals.OutOfMemory = (refused_text (refused refusal.OutOfMemory) ++ codes "\n", refl)
told_of names journals.NoGuest = (codes "no journal begins with a guest" ++ codes "\n", refl)
told_of names (journals.File i f) = (fault_line (name_of (slice_get names i)) f, refl)

-- journals are not audited
module _ (files : List JournalText) (image : List ℕ) (text : AuditText) (out out' : Option (List ℕ)) (fault : JournalsFault)
    (reason : IsJournalsFault (capacity_of text) files image fault) where
  pub not_audited : (errors errors' : Option (List ℕ)) → IsFaultTold (names_in files) fault errors errors' → out' ≡ out
      → HasAuditStatus 1 files image text out out' errors errors'
  not_audited errors errors' told same = inl (record { fault = fault; reason = reason; told = told; same = same })

  pub not_audited_untold : out' ≡ out → IsUntoldAudit files image text out out'
  not_audited_untold same =
      let told = told_of (names_in files) fault in (1, told.0, not_audited (Some []) (Some told.0) told.1 same)

-- what was written is of the order of the rule
pub with_merge : {F : Type 0} (r : Result Unit F) (Merge Written : Type 0) → Merge → OnOk r Written → OnOk r (Merge × Written)
with_merge (Ok done) Merge Written merge written = (merge, written)
with_merge (Err e) Merge Written merge written = tt

-- one outline more
pub one_outline : (all : List Recording) (i : ℕ) (r : Recording) (refs more : List (Bor PlainOutline)) (t : Bor PlainOutline)
    → i < length all → get_or all i r ≡ r → AreOutlinesOf (histories_in (take i all)) (outlines_in refs) → IsOutlineOf r.journal t.now
    → more ≡ refs ++ t ∷ [] → AreOutlinesOf (histories_in (take (i + 1) all)) (outlines_in more)
one_outline all i r refs more t less at so own is =
    subst (λ hs. AreOutlinesOf hs (outlines_in more))
    (sym (map-append (λ (s : Recording). s.journal) (take i all) (r ∷ []))
    ∙ ap (λ (s : Recording). histories_in (take i all ++ s ∷ [])) (sym at) ∙ ap histories_in (sym (take_more all i r less)))
    (outlined_more (histories_in (take i all)) r.journal (outlines_in refs) (outlines_in more) t.now so own
    (ap outlines_in is ∙ map-append (λ (b : Bor PlainOutline). b.now) refs (t ∷ [])))

pub none_outlined : (all : List Recording) → AreOutlinesOf (histories_in (take 0 all)) []
none_outlined [] = record { count_is = refl; each = λ x t at. absurd cc }
none_outlined (r ∷ all) = record { count_is = refl; each = λ x t at. absurd cc }

-- journals with these texts were audited
module _ (names : List (Bor (List ℕ))) (known : List (Option (List ℕ))) (image : List ℕ) (text : AuditText)
    (out out' : Option (List ℕ)) where
  pub texts_audited : {E : Type 0} (r : Result ℕ E) (files : List JournalText) (errors errors' : Option (List ℕ))
      → AreTexts names known files → IfOk r (λ s. HasAuditStatus s files image text out out' errors errors')
      → IfOk r (λ s. (files : List JournalText) × AreTexts names known files
      × HasAuditStatus s files image text out out' errors errors')
  texts_audited (Ok s) files errors errors' are ended = (files, are, ended)
  texts_audited (Err e) files errors errors' are ended = tt

  pub texts_untold : {E : Type 0} (r : Result ℕ E) (files : List JournalText) → AreTexts names known files
      → OnErr r (IsUntoldAudit files image text out out')
      → OnErr r ((files : List JournalText) × AreTexts names known files × IsUntoldAudit files image text out out')
  texts_untold (Ok s) files are untold = tt
  texts_untold (Err e) files are untold = (files, are, untold)

-- they are not audited
module _ (names : List (Bor (List ℕ))) (known : List (Option (List ℕ))) (image : List ℕ) (text : AuditText)
    (out : Option (List ℕ)) (fault : JournalsFault)
    (reason : (files : List JournalText) × AreTexts names known files × IsJournalsFault (capacity_of text) files image fault) where
  pub texts_refused : (errors errors' : Option (List ℕ)) → IsFaultTold (plain_names names) fault errors errors'
      → (files : List JournalText) × AreTexts names known files × HasAuditStatus 1 files image text out out errors errors'
  texts_refused errors errors' told = (
    reason.0,
    reason.1,
    not_audited reason.0 image text out out fault reason.2 errors errors'
        (subst (λ ns. IsFaultTold ns fault errors errors') (named_same names known reason.0 reason.1) told) refl,
  )

  pub texts_refused_untold : (files : List JournalText) × AreTexts names known files × IsUntoldAudit files image text out out
  texts_refused_untold = (reason.0, reason.1, not_audited_untold reason.0 image text out out fault reason.2 refl)

-- what was asked for by its name
pub untold_texts_as : {F : Type 0} (r : Result ℕ F) (names : List (Bor (List ℕ))) (known : List (Option (List ℕ)))
    (image : List ℕ) (named text : AuditText) (out out' : Option (List ℕ)) → text ≡ named
    → OnErr r ((files : List JournalText) × AreTexts names known files × IsUntoldAudit files image named out out')
    → OnErr r ((files : List JournalText) × AreTexts names known files × IsUntoldAudit files image text out out')
untold_texts_as r names known image named text out out' is untold =
    subst (λ t. OnErr r ((files : List JournalText) × AreTexts names known files × IsUntoldAudit files image t out out')) (sym is)
    untold
