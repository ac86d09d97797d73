-- Audits of journals of which only the frames are kept.
use Rattle.std.proofs.Common.{◌≡◌, ◌∙◌, ℕ, zero, suc, ◌+◌, ◌<◌, ◌≤◌, Bool, true, false, List, [], ◌∷◌, ◌++◌, Option, None, Some, append-nil, append_assoc, arith, get_or, length, length-append, take, refl, sym, ap, subst, inl, inr}
use Rattle.std.specs.Prelude.{MatchOption, is_some, slice_get}
use Rattle.std.proofs.Math.Seq.{take-length}
use Rattle.std.proofs.lemmas.List.{map-append, take_more}
use Rattle.std.proofs.lemmas.Option.{same_Some, slice_get_within}
use denote.Ref.{Bor}
use Rattle.rvm_core.specs.declared.event.Event.{Event}
use Rattle.rvm_host.specs.Hosts.{PlainHost}
use Rattle.rvm_message.specs.declared.event.HostEvent.{HostEvent}
use Rattle.rvm_message.specs.declared.event.HostEvent.TheVariants.{Came, Do}
use Rattle.rvm_message.specs.Events.{event_of}
use Rattle.rvm_recorder.specs.Entries.{PlainEntry}
use Rattle.rvm_recorder.specs.History.{History}
use Rattle.rvm_recorder.specs.Items.{all_of}
use Rattle.rvm_recorder.specs.Replay.{IsReplay, IsReplayFrom, LawHost, outcome_at}
use Rattle.rvm_audit.specs.Audits.{histories_of}
use Rattle.rvm_audit.specs.Cuts.{AreContradicted, AreExplained, IsExplained, all_made, marked}
use Rattle.rvm_audit.specs.Hosts.{AllFollow, CameMade, HostEntry}
use Rattle.rvm_audit.specs.ListOrders.{journals_of, no_history}
use Rattle.rvm_audit.specs.Orders.{IsDeadEnd, IsOrder, Journals, cut}
use Rattle.rvm_audit.specs.Parts.{AreOf, AreSized, taken}
use Rattle.rvm_audit.specs.Passing.{HasPassed}
use Rattle.rvm_audit.specs.PlainParts.{PlainPart}
use Rattle.rvm_audit.specs.OutlineAudits.{ArePartsOf, IsPartOf}
use Rattle.rvm_audit.specs.Outlines.{AreOutlinesOf, IsOutlineOf, PlainOutline, entries_at, no_outline, outlines_in}
use Rattle.rvm_audit.specs.declared.part.Place.{Place}
use Rattle.rvm_audit.proofs.Gets.{get_last}
use Rattle.rvm_audit.proofs.Passages.{made_append}
use Rattle.rvm_audit.proofs.Runs.{interleaved}

-- AN ORDER

-- the first entries of a replay
replay_take : (o : PlainHost) (h : LawHost) (n : ℕ) (xs : List PlainEntry) → IsReplayFrom o h xs → IsReplayFrom o h (take n xs)
replay_take o h zero [] is = tt
replay_take o h zero (x ∷ xs) is = tt
replay_take o h (suc n) [] is = tt
replay_take o h (suc n) (x ∷ xs) is = (is.0, replay_take o (outcome_at o h (event_of x.event)).next n xs is.1)

module _ (j : Journals) (is_cut : ℕ → Bool) (none : (x : ℕ) → is_cut x ≡ false) where
  -- where no journal was cut, each frame that came was made
  came_made : (before : List HostEntry) (x : ℕ) (e : HostEvent) → IsExplained j is_cut before x e
      → CameMade j.openings (all_made before) x e
  came_made before x (Do c) is = tt
  came_made before x (Came from frame) (inl made) = made
  came_made before x (Came from frame) (inr lost) = absurd (let on = lost.was_cut in let off = none from in cc)

  -- so the entries of a sequence may follow one another
  follows : (before ss : List HostEntry)
      → ((k : ℕ) (s : HostEntry) → slice_get ss k ≡ Some s
      → (s.0 < j.openings.count) × CameMade j.openings (all_made (before ++ take k ss)) s.0 s.1.event)
      → AllFollow j.openings (all_made before) ss
  follows before [] each = tt
  follows before (s ∷ ss) each = (
    record {
      there = (each 0 s refl).0;
      came = subst (λ ts. CameMade j.openings (all_made ts) s.0 s.1.event) (append-nil before) (each 0 s refl).1;
    },
    subst (λ made. AllFollow j.openings made ss) (made_append before s.0 s.1)
        (follows (before ++ s ∷ []) ss (λ k t at.
        let e = each (suc k) t at in (
          e.0,
          subst (λ ts. CameMade j.openings (all_made ts) t.0 t.1.event) (sym (append_assoc before (s ∷ []) (take k ss))) e.1,
        ))),
  )

  module _ (at : ℕ → ℕ) (passed : HasPassed j is_cut at)
      (replays : (x : ℕ) → x < j.openings.count → IsReplay (j.openings.host x) (j.entries x)) where
    all_follow : AllFollow j.openings [] passed.sequence
    all_follow = follows [] passed.sequence (λ k s here. (
      passed.all.there k s here,
      came_made (take k passed.sequence) s.0 s.1.event (passed.all.explained k s here),
    ))

    -- what was passed has an order
    pub cut_order : (events : List Event) × IsOrder (cut at j) events
    cut_order =
        let o = interleaved (cut at j) passed.sequence (record {
          replays = λ x lt. replay_take (j.openings.host x) _ (at x) (j.entries x) (replays x lt);
          entries = passed.entries;
          follow = all_follow;
        }) in
        (o.0, o.1)

    -- if all was passed, the journals have an order
    pub whole_order : ((x : ℕ) → x < j.openings.count → length (j.entries x) ≤ at x)
        → (events : List Event) × IsOrder j events
    whole_order all =
        let o = interleaved j passed.sequence (record {
          replays = replays;
          entries = λ x lt.
              (let le = all x lt in
              let w = passed.within x lt in
              let full : at x ≡ length (j.entries x) = omega (arith, le, w) in
              passed.entries x lt ∙ ap (λ k. take k (j.entries x)) full ∙ take-length (j.entries x));
          follow = all_follow;
        }) in
        (o.0, o.1)

    -- if not all was passed, this is a dead end
    pub dead_end : (x : ℕ) → x < j.openings.count → at x < length (j.entries x) → IsDeadEnd j at
    dead_end x lt more = record { within = passed.within; rest = (x, lt, more); stuck = passed.stuck }

-- OUTLINES

-- the stretches of a journal
pub all_stretched : (stretches entries : List PlainEntry) (items : List (List PlainEntry))
    → ((before : List PlainEntry) → ◌≡◌ {A = List PlainEntry} [] before → stretches ≡ before ++ all_of items)
    → all_of items ≡ entries → stretches ≡ entries
all_stretched stretches entries items shown is = shown [] refl ∙ is

-- one outline more
module _ (ts : List PlainOutline) (parts more : List PlainPart) (host : ℕ) (t : PlainOutline) (part : PlainPart) where
  pub one_part : more ≡ parts ++ part ∷ [] → ArePartsOf ts parts → length parts ≡ host → slice_get ts host ≡ Some t
      → IsPartOf t part → ArePartsOf ts more
  one_part more_is each long here own = subst (ArePartsOf ts) (sym more_is) (λ x other at. elim (get_last parts part x other at) [
    | inl before ↦ each x other before
    | inr last ↦ (
      t,
      ap (slice_get ts) (last.1 ∙ long) ∙ here,
      subst (IsPartOf t) last.0 own,
    )
  ])

pub all_sized : (ts : List PlainOutline) (parts : List PlainPart) → ArePartsOf ts parts → AreSized parts
all_sized ts parts are = λ x part at. (are x part at).2.sized

-- the outline that a reference is to
pub outline_there : (refs : List (Bor PlainOutline)) (x : ℕ) (t : Bor PlainOutline) → slice_get refs x ≡ Some t
    → slice_get (outlines_in refs) x ≡ Some t.now
outline_there [] x t is = cc
outline_there (b ∷ refs) zero t is = ap (λ (c : Bor PlainOutline). Some c.now) (same_Some b t is)
outline_there (b ∷ refs) (suc x) t is = outline_there refs x t is

-- there are as many outlines as references
pub as_many_outlines : (refs : List (Bor PlainOutline)) → length (outlines_in refs) ≡ length refs
as_many_outlines [] = refl
as_many_outlines (b ∷ refs) = ap suc (as_many_outlines refs)

-- one reference more
pub one_reference : (ts : List PlainOutline) (host : ℕ) (t : PlainOutline) (refs more : List (Bor PlainOutline)) (b : Bor PlainOutline)
    → host < length ts → get_or ts host t ≡ t → outlines_in refs ≡ take host ts → b.now ≡ t → more ≡ refs ++ b ∷ []
    → outlines_in more ≡ take (host + 1) ts
one_reference ts host t refs more b lt at so own more_is =
    ap outlines_in more_is ∙ map-append (λ (c : Bor PlainOutline). c.now) refs (b ∷ []) ∙ (λ i. so i ++ own i ∷ [])
    ∙ ap (λ u. take host ts ++ u ∷ []) (sym at) ∙ sym (take_more ts host t lt)

-- the journals of outlines
pub none_outlined : (hs : List History) → AreOutlinesOf (take 0 hs) []
none_outlined [] = record { count_is = refl; each = λ x t at. absurd cc }
none_outlined (h ∷ hs) = record { count_is = refl; each = λ x t at. absurd cc }

snoc_at : (hs : List History) (h : History) → get_or (hs ++ h ∷ []) (length hs) no_history ≡ h
snoc_at [] h = refl
snoc_at (k ∷ hs) h = snoc_at hs h

snoc_before : (hs : List History) (h : History) (x : ℕ) → x < length hs
    → get_or (hs ++ h ∷ []) x no_history ≡ get_or hs x no_history
snoc_before [] h x lt = absurd (omega (arith, lt))
snoc_before (k ∷ hs) h zero lt = refl
snoc_before (k ∷ hs) h (suc x) lt = snoc_before hs h x (omega (arith, lt))

pub outlined_more : (hs : List History) (h : History) (ts more : List PlainOutline) (t : PlainOutline) → AreOutlinesOf hs ts
    → IsOutlineOf h t → more ≡ ts ++ t ∷ [] → AreOutlinesOf (hs ++ h ∷ []) more
outlined_more hs h ts more t are own more_is = subst (AreOutlinesOf (hs ++ h ∷ [])) (sym more_is) (record {
  count_is =
      (let c = are.count_is in omega (arith, c, length-append hs (h ∷ []), length-append ts (t ∷ [])));
  each = λ x other at. elim (get_last ts t x other at) [
    | inl before ↦
        (let c = are.count_is in
        let l = slice_get_within ts x other before in
        subst (λ k. IsOutlineOf k other) (sym (snoc_before hs h x (omega (arith, c, l)))) (are.each x other before))
    | inr last ↦
        (let x_is : length hs ≡ x = are.count_is ∙ sym last.1 in
        subst (IsOutlineOf (get_or (hs ++ h ∷ []) x no_history)) last.0
        (subst (λ k. IsOutlineOf k t) (sym (ap (λ y. get_or (hs ++ h ∷ []) y no_history) (sym x_is) ∙ snoc_at hs h)) own))
  ];
})

history_at : (journals : List (Bor History)) (x : ℕ) (journal : Bor History) → slice_get journals x ≡ Some journal
    → take (x + 1) (histories_of journals) ≡ take x (histories_of journals) ++ journal.now ∷ []
history_at [] x journal is = cc
history_at (b ∷ journals) zero journal is = first (histories_of journals) b journal (same_Some b journal is)
  where
    first : (hs : List History) (b journal : Bor History) → b ≡ journal
        → take 1 (b.now ∷ hs) ≡ take 0 (b.now ∷ hs) ++ journal.now ∷ []
    first [] b journal same = ap (λ (c : Bor History). c.now ∷ []) same
    first (h ∷ hs) b journal same = ap (λ (c : Bor History). c.now ∷ []) same
history_at (b ∷ journals) (suc x) journal is =
    let next : suc x + 1 ≡ suc (x + 1) = omega arith in
    ap (λ n. take n (histories_of (b ∷ journals))) next ∙ ap (λ hs. b.now ∷ hs) (history_at journals x journal is)

pub one_outlined : (journals : List (Bor History)) (host : ℕ) (journal : Bor History) (ts more : List PlainOutline) (t : PlainOutline)
    → host < length journals → slice_get journals host ≡ Some journal → AreOutlinesOf (take host (histories_of journals)) ts
    → IsOutlineOf journal.now t → more ≡ ts ++ t ∷ [] → AreOutlinesOf (take (host + 1) (histories_of journals)) more
one_outlined journals host journal ts more t lt here are own more_is =
    subst (λ hs. AreOutlinesOf hs more) (sym (history_at journals host journal here))
    (outlined_more (take host (histories_of journals)) journal.now ts more t are own more_is)

outline_at : (ts : List PlainOutline) (x : ℕ) (t : PlainOutline) → slice_get ts x ≡ Some t → get_or ts x no_outline ≡ t
outline_at [] x t is = cc
outline_at (u ∷ ts) zero t is = same_Some u t is
outline_at (u ∷ ts) (suc x) t is = outline_at ts x t is

there : (ts : List PlainOutline) (x : ℕ) → x < length ts → slice_get ts x ≡ Some (get_or ts x no_outline)
there [] x lt = absurd (omega (arith, lt))
there (t ∷ ts) zero lt = refl
there (t ∷ ts) (suc x) lt = there ts x (omega (arith, lt))

module _ (hs : List History) (refs : List (Bor PlainOutline)) (are : AreOutlinesOf hs (outlines_in refs)) where
  abbrev ts : List PlainOutline
  ts = outlines_in refs

  inside : (x : ℕ) → x < length refs → x < length ts
  inside x lt = let many = as_many_outlines refs in omega (arith, lt, many)

  -- the parts of outlines are those of their journals
  pub parts_are : (parts seen : List PlainPart) → length parts ≡ length refs → ArePartsOf ts parts → seen ≡ parts
      → AreOf (journals_of hs) seen
  parts_are parts seen long each is = subst (AreOf (journals_of hs)) (sym is) (record {
    count_is = are.count_is ∙ as_many_outlines refs ∙ sym long;
    each = λ x part at.
        (let p = each x part at in
        let t = are.each x p.0 p.1 in
        record {
          version_is = p.2.version_is ∙ t.version_is;
          entries_are = p.2.entries_are ∙ t.entries_are;
          replay = t.replay;
        });
  })

  -- the entries of an outline
  pub same_entries : (x : ℕ) → x < length ts → entries_at ts x ≡ (get_or hs x no_history).entries
  same_entries x lt = (are.each x (get_or ts x no_outline) (there ts x lt)).entries_are

  pub all_replay : (x : ℕ) → x < length hs → IsReplay (get_or hs x no_history).opening (get_or hs x no_history).entries
  all_replay x lt =
      let c = are.count_is in
      (are.each x (get_or ts x no_outline) (there ts x (omega (arith, lt, c)))).replay

  module _ (cuts : List Bool) (places seen : List Place)
      (passed : HasPassed (journals_of hs) (marked cuts) (taken places)) (same : seen ≡ places) where
    abbrev AllDone : Type 0
    AllDone = (x : ℕ) → x < length refs → length (entries_at ts x) ≤ taken seen x

    abbrev IsUnfinished : ℕ → Type 0
    IsUnfinished x = (x < length refs) × (taken seen x < length (entries_at ts x))

    all_done : AllDone → (x : ℕ) → x < length hs → length (get_or hs x no_history).entries ≤ taken places x
    all_done done x lt =
        let c = are.count_is in
        let many = as_many_outlines refs in
        let less : x < length refs = omega (arith, lt, c, many) in
        subst (λ (ps : List Place). length (get_or hs x no_history).entries ≤ taken ps x) same
        (subst (λ (xs : List PlainEntry). length xs ≤ taken seen x) (same_entries x (inside x less)) (done x less))

    there_in : (x : ℕ) → x < length refs → x < length hs
    there_in x lt = let c = are.count_is in let many = as_many_outlines refs in omega (arith, lt, c, many)

    more_left : (x : ℕ) → IsUnfinished x → taken places x < length (get_or hs x no_history).entries
    more_left x more =
        subst (λ (ps : List Place). taken ps x < length (get_or hs x no_history).entries) same
        (subst (λ (xs : List PlainEntry). taken seen x < length xs) (same_entries x (inside x more.0)) more.1)

    pub contradicted : (o : Option ℕ) (b : Bool) → MatchOption o AllDone IsUnfinished → b ≡ is_some o → b ≡ true
        → AreContradicted hs cuts
    contradicted None b done is so = cc
    contradicted (Some x) b more is so = passed.contradiction x (there_in x more.0) (more_left x more)

    pub explained : (o : Option ℕ) (b : Bool) → MatchOption o AllDone IsUnfinished → b ≡ is_some o → b ≡ false
        → AreExplained hs cuts
    explained None b done is so =
        let e = passed.explained (all_done done) in record { sequence = e.0; explanation = e.1 }
    explained (Some x) b more is so = cc

    module _ (none : (x : ℕ) → marked cuts x ≡ false) where
      pub ordered : AllDone → (events : List Event) × IsOrder (journals_of hs) events
      ordered done = whole_order (journals_of hs) (marked cuts) none (taken places) passed all_replay (all_done done)

      pub unordered : (x : ℕ) → IsUnfinished x → IsDeadEnd (journals_of hs) (taken places)
          × ((events : List Event) × IsOrder (cut (taken places) (journals_of hs)) events)
      unordered x more = (
        dead_end (journals_of hs) (marked cuts) none (taken places) passed all_replay x (there_in x more.0) (more_left x more),
        cut_order (journals_of hs) (marked cuts) none (taken places) passed all_replay,
      )
