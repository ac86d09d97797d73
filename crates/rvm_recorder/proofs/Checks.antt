-- One more receipt is checked.
use Rattle.std.proofs.Common.{◌≡◌, ◌∙◌, ◌≢◌, ℕ, ◌+◌, ◌<◌, ◌≤◌, List, length, Option, Some, None, refl, sym, ap, arith, inl, inr, get_or}
use Rattle.std.specs.Prelude.{slice_get, ◌⊎◌}
use Rattle.std.proofs.lemmas.Option.{slice_get_within, slice_get-get_or, same_Some}
use Rattle.rvm_message.specs.declared.event.Command.TheVariants.{Copy}
use Rattle.rvm_message.specs.declared.event.HostEvent.TheVariants.{Do}
use Rattle.rvm_message.specs.declared.reply.HostReply.TheVariants.{Noted}
use Rattle.rvm_recorder.specs.Entries.{PlainEntry}
use Rattle.rvm_recorder.specs.Receipts.{PlainReceipt}
use Rattle.rvm_recorder.specs.Close.{IsRightAt, IsPast, IsFirstFault, IsJournal}

-- the receipts of the places below p are right
pub record Checked (entries : List PlainEntry) (receipts : List PlainReceipt) (last : ℕ → Option ℕ) (p : ℕ)
    : Type 0 where
  pub len : p ≤ length receipts
  pub place : (k : ℕ) (r : PlainReceipt) → k < p → slice_get receipts k ≡ Some r → r.place ≡ k
  pub event : (k : ℕ) (r : PlainReceipt) (e : PlainEntry) → k < p → slice_get receipts k ≡ Some r
      → slice_get entries k ≡ Some e → r.event ≡ e.event
  pub reply : (k : ℕ) (r : PlainReceipt) (e : PlainEntry) → k < p → slice_get receipts k ≡ Some r
      → slice_get entries k ≡ Some e → r.reply ≡ e.reply
  pub rises : (j k : ℕ) (s r : PlainReceipt) → j < k → k < p → slice_get receipts j ≡ Some s
      → slice_get receipts k ≡ Some r → s.seat ≡ r.seat → s.count < r.count
  pub covers : (k : ℕ) (r : PlainReceipt) → k < p → slice_get receipts k ≡ Some r
      → (c : ℕ) × (last r.seat ≡ Some c) × (r.count ≤ c)
  pub from : (seat c : ℕ) → last seat ≡ Some c
      → (k : ℕ) × (r : PlainReceipt) × (k < p) × (slice_get receipts k ≡ Some r) × (r.seat ≡ seat) × (r.count ≡ c)
  pub apart : (k : ℕ) (r : PlainReceipt) → p ≤ k → slice_get receipts k ≡ Some r → p ≤ r.place

-- below i, at i, or above it
cases_at : (i k : ℕ) → ((k < i) ⊎ (k ≡ i)) ⊎ (i < k)
cases_at i k = grind arith

below_or : (k p : ℕ) → k < p + 1 → (k < p) ⊎ (k ≡ p)
below_or k p lt = grind arith

same_or : (a b : ℕ) → (a ≡ b) ⊎ (a ≢ b)
same_or a b = grind arith

module _ (entries : List PlainEntry) (rs : List PlainReceipt) (last : ℕ → Option ℕ) (p : ℕ) (so : Checked entries rs last p) where
  -- the receipts below are right
  pub right_below : (k : ℕ) (e : PlainEntry) (r : PlainReceipt) → k < p → slice_get rs k ≡ Some r → slice_get entries k ≡ Some e → IsRightAt entries rs k
  right_below k e r lt here kept = record {
    index = k;
    receipt = r;
    entry = e;
    stands = here;
    at = so.place k r lt here;
    one = λ j s there same. elim (cases_at p j) [
      | inl low ↦ elim low [ inl below ↦ let q = so.place j s below there in omega arith | inr is ↦ let q = so.apart j s (omega arith) there in absurd (omega arith) ]
      | inr above ↦ let q = so.apart j s (omega arith) there in absurd (omega arith)
    ];
    kept = kept;
    event = so.event k r e lt here kept;
    reply = so.reply k r e lt here kept;
    rises = λ j s there lower seat.
        (elim (cases_at p j) [
          | inl low ↦ elim low [ inl below ↦ (let q = so.place j s below there in let jk : j < k = omega arith in so.rises j k s r jk lt there here seat) | inr is ↦ let q = so.apart j s (omega arith) there in absurd (omega arith) ]
          | inr above ↦ let q = so.apart j s (omega arith) there in absurd (omega arith)
        ]);
  }

  -- the receipt of this place stands there
  right_index : (w : IsRightAt entries rs p) (r : PlainReceipt) → slice_get rs p ≡ Some r → r.place ≡ p → w.index ≡ p
  right_index w r here at = sym (w.one p r here at)

  right_is : (w : IsRightAt entries rs p) (r : PlainReceipt) → slice_get rs p ≡ Some r → r.place ≡ p → w.receipt ≡ r
  right_is w r here at = same_Some w.receipt r (sym w.stands ∙ ap (slice_get rs) (right_index w r here at) ∙ here)

  -- FAULTS

  -- two receipts of the place
  pub fault_twice : (k : ℕ) (r s : PlainReceipt) → slice_get rs p ≡ Some r → r.place ≡ p → slice_get rs k ≡ Some s
      → s.place ≡ p → p < k → IsRightAt entries rs p → ⊥
  fault_twice k r s here at there same above w =
      let a = w.one p r here at in let b = w.one k s there same in omega (arith, a, b, above)

  -- another event or reply
  pub fault_told : (r : PlainReceipt) (e : PlainEntry) → slice_get rs p ≡ Some r → r.place ≡ p → slice_get entries p ≡ Some e
      → ((r.event ≡ e.event) × (r.reply ≡ e.reply) → ⊥) → IsRightAt entries rs p → ⊥
  fault_told r e here at kept differ w =
      let r_is = right_is w r here at in
      let e_is : w.entry ≡ e = same_Some w.entry e (sym w.kept ∙ kept) in
      differ (
        ap (λ (x : PlainReceipt). x.event) (sym r_is) ∙ w.event ∙ ap (λ (x : PlainEntry). x.event) e_is,
        ap (λ (x : PlainReceipt). x.reply) (sym r_is) ∙ w.reply ∙ ap (λ (x : PlainEntry). x.reply) e_is,
      )

  -- made no later than the last of its seat
  pub fault_above : (r : PlainReceipt) (c : ℕ) → slice_get rs p ≡ Some r → r.place ≡ p → last r.seat ≡ Some c → r.count ≤ c
      → IsRightAt entries rs p → ⊥
  fault_above r c here at got le w =
      let r_is = right_is w r here at in
      let f = so.from r.seat c got in
      let k = so.place f.0 f.1 f.2 f.3 in
      let below = f.2 in
      let lower : f.1.place < p = omega arith in
      let more = w.rises f.0 f.1 f.3 lower (f.4 ∙ ap (λ (x : PlainReceipt). x.seat) (sym r_is)) in
      let is = f.5 in
      let count = ap (λ (x : PlainReceipt). x.count) r_is in omega (arith, more, is, count, le)

  -- no receipt is of the place: those after are of higher ones
  pub fault_none : ((k : ℕ) (r : PlainReceipt) → p ≤ k → slice_get rs k ≡ Some r → p < r.place) → IsRightAt entries rs p → ⊥
  fault_none above w = elim (cases_at p w.index) [
    | inl low ↦ elim low [
      | inl below ↦ let q = so.place w.index w.receipt below w.stands in let a = w.at in absurd (omega arith)
      | inr is ↦ let q = above w.index w.receipt (omega arith) w.stands in let a = w.at in absurd (omega arith)
    ]
    | inr higher ↦ let q = above w.index w.receipt (omega arith) w.stands in let a = w.at in absurd (omega arith)
  ]

  module _ (e : PlainEntry) (kept : slice_get entries p ≡ Some e) (s : PlainReceipt) (here : slice_get rs p ≡ Some s)
      (at : s.place ≡ p) (event_is : s.event ≡ e.event) (reply_is : s.reply ≡ e.reply)
      (above : (c : ℕ) → last s.seat ≡ Some c → c < s.count)
      (behind : (k : ℕ) (r : PlainReceipt) → p + 1 ≤ k → slice_get rs k ≡ Some r → p < r.place) (next : ℕ → Option ℕ)
      (same : next s.seat ≡ Some s.count) (other : (q : ℕ) → q ≢ s.seat → next q ≡ last q) where
    here_is : (k : ℕ) (r : PlainReceipt) → k ≡ p → slice_get rs k ≡ Some r → r ≡ s
    here_is k r is there = same_Some r s (sym there ∙ ap (slice_get rs) is ∙ here)

    covers_more : (k : ℕ) (r : PlainReceipt) → k < p + 1 → slice_get rs k ≡ Some r → (c : ℕ) × (next r.seat ≡ Some c) × (r.count ≤ c)
    covers_more k r lt there = elim (below_or k p lt) [
      | inl less ↦
          let h = so.covers k r less there in
          elim (same_or r.seat s.seat) [
            | inl is ↦ let a = above h.0 (ap last (sym is) ∙ h.1) in let b = h.2 in (s.count, ap next is ∙ same, omega arith)
            | inr differ ↦ (h.0, other r.seat differ ∙ h.1, h.2)
          ]
      | inr is ↦ let r_is = here_is k r is there in (s.count, ap (λ x. next x.seat) r_is ∙ same, omega (arith, ap (λ x. x.count) r_is))
    ]

    from_more : (seat c : ℕ) → next seat ≡ Some c → (k : ℕ) × (r : PlainReceipt) × (k < p + 1) × (slice_get rs k ≡ Some r) × (r.seat ≡ seat) × (r.count ≡ c)
    from_more seat c got = elim (same_or seat s.seat) [
      | inl is ↦ (p, s, omega arith, here, sym is, same_Some s.count c (sym same ∙ ap next (sym is) ∙ got))
      | inr differ ↦ let f = so.from seat c (sym (other seat differ) ∙ got) in let l = f.2 in (f.0, f.1, omega arith, f.3, f.4, f.5)
    ]

    rises_more : (j k : ℕ) (t r : PlainReceipt) → j < k → k < p + 1 → slice_get rs j ≡ Some t → slice_get rs k ≡ Some r → t.seat ≡ r.seat → t.count < r.count
    rises_more j k t r jk lt there here seat = elim (below_or k p lt) [
      | inl less ↦ so.rises j k t r jk less there here seat
      | inr is ↦
          let r_is = here_is k r is here in
          let jp : j < p = omega arith in
          let h = so.covers j t jp there in
          let a = above h.0 (ap last (sym (seat ∙ ap (λ x. x.seat) r_is)) ∙ h.1) in
          let b = h.2 in
          let c = ap (λ x. x.count) r_is in omega arith
    ]

    apart_more : (k : ℕ) (r : PlainReceipt) → p + 1 ≤ k → slice_get rs k ≡ Some r → p + 1 ≤ r.place
    apart_more k r le there = let low = behind k r le there in omega (arith, low)

    -- one more
    pub one_more : Checked entries rs next (p + 1)
    one_more = record {
      len = let l = slice_get_within rs p s here in omega arith;
      place = λ k r lt there. (elim (below_or k p lt) [ inl less ↦ so.place k r less there | inr is ↦ ap (λ x. x.place) (here_is k r is there) ∙ at ∙ sym is ]);
      event = λ k r e' lt there kept'. (elim (below_or k p lt) [ inl less ↦ so.event k r e' less there kept' | inr is ↦ ap (λ x. x.event) (here_is k r is there) ∙ event_is ∙ ap (λ x. x.event) (same_Some e e' (sym kept ∙ ap (slice_get entries) (sym is) ∙ kept')) ]);
      reply = λ k r e' lt there kept'. (elim (below_or k p lt) [ inl less ↦ so.reply k r e' less there kept' | inr is ↦ ap (λ x. x.reply) (here_is k r is there) ∙ reply_is ∙ ap (λ x. x.reply) (same_Some e e' (sym kept ∙ ap (slice_get entries) (sym is) ∙ kept')) ]);
      rises = rises_more;
      covers = covers_more;
      from = from_more;
      apart = apart_more;
    }

-- fillers past the end
pub no_entry : PlainEntry
no_entry = record { event = Do Copy; reply = Noted; frame = None }

no_receipt : PlainReceipt
no_receipt = record { place = 0; reply = Noted; seat = 0; count = 0; event = Do Copy }

-- all that are below the place
pub all_below : (entries : List PlainEntry) (rs : List PlainReceipt) (last : ℕ → Option ℕ) (p : ℕ) → Checked entries rs last p → p ≤ length entries → (k : ℕ) → k < p → IsRightAt entries rs k
all_below entries rs last p so le k lt =
    let l = so.len in let d = no_entry in let r = no_receipt in
    right_below entries rs last p so k (get_or entries k d) (get_or rs k r) lt (slice_get-get_or rs k r (omega arith)) (slice_get-get_or entries k d (omega arith))

-- a receipt is left over
pub left_over : (entries : List PlainEntry) (rs : List PlainReceipt) (last : ℕ → Option ℕ) → Checked entries rs last (length entries) → length entries < length rs → IsFirstFault entries rs (length entries)
left_over entries rs last so lt =
    let n = length entries in
    let r = get_or rs n no_receipt in
    let here = slice_get-get_or rs n no_receipt lt in
    let ok : n ≤ n = omega arith in
    let no_less : n ≤ r.place = so.apart n r ok here in
    let past : IsPast entries rs = record { index = n; receipt = r; stands = here; past = no_less } in
    (all_below entries rs last n so ok, inr (refl, past))

-- all was checked
pub all_checked : (entries : List PlainEntry) (rs : List PlainReceipt) (last : ℕ → Option ℕ) → Checked entries rs last (length entries) → length rs ≤ length entries → IsJournal entries rs
all_checked entries rs last so le = let l = so.len in record {
  len = omega arith;
  place = λ k r at. let w = slice_get_within rs k r at in so.place k r (omega arith) at;
  event = λ k r e at there. let w = slice_get_within rs k r at in so.event k r e (omega arith) at there;
  reply = λ k r e at there. let w = slice_get_within rs k r at in so.reply k r e (omega arith) at there;
  rises = λ j k s r jk at there seat. let w = slice_get_within rs k r there in so.rises j k s r jk (omega arith) at there seat;
}
