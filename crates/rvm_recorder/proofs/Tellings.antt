-- The receipts of an item are compared: how far the check comes, and what is wrong after that.
use Rattle.std.proofs.Common.{◌≡◌, ◌∙◌, ◌≢◌, ℕ, zero, suc, ◌+◌, ◌-◌, ◌*◌, ◌%◌, ◌<◌, ◌≤◌, List, [], ◌∷◌, ◌++◌, length, length-append, drop, take, Option, Some, None, refl, sym, ap, subst, arith, inl, inr, get_or, cond}
use Rattle.std.specs.Prelude.{slice_get, unwrap_or, ◌⊎◌, ◌==◌}
use Rattle.std.proofs.lemmas.Bool.{eq-eqb, ne_eqb}
use Rattle.std.proofs.lemmas.Option.{same_Some, slice_get-get_or}
use Rattle.rvm_recorder.specs.Close.{IsFirstFault, IsJournal, IsRightAt}
use Rattle.rvm_recorder.specs.declared.items.ReceiptItem.{ReceiptItem}
use Rattle.rvm_recorder.specs.declared.items.ReceiptItem.TheVariants as item
use Rattle.rvm_recorder.specs.Receipts.{PlainReceipt}
use Rattle.rvm_recorder.specs.Runs.{all_of, calls_before, count_in, place_of, receipts_of, seat_in}
use Rattle.rvm_recorder.specs.declared.round_receipts.RoundReceipts.{RoundReceipts}
use Rattle.rvm_recorder.specs.declared.step_receipts.StepReceipts.{StepReceipts}
use Rattle.rvm_recorder.specs.Telling.{AreFrom, AreRising, Differs, IsOf, Skips, Tells, entry_in, first_place, receipt_at}
use Rattle.rvm_hart.specs.declared.outcome.Stepped.TheVariants.{Retired}
use Rattle.rvm_recorder.specs.declared.steps.Steps.{Steps}
use Rattle.rvm_recorder.specs.Items.{dry_entry, rounds_of, step_entry, steps_in_turn}
use Rattle.rvm_recorder.specs.Rounds.{IsRowAt}
use Rattle.rvm_recorder.proofs.InRounds.{rounds_length, row_fits, row_inside, row_step}
use Rattle.rvm_recorder.proofs.StepRuns.{steps_length}
use Rattle.rvm_message.specs.declared.step.StepReply.TheVariants.{Stepped}
use Rattle.rvm_message.specs.Exchanges.{step_of_hart}
use Rattle.std.proofs.lemmas.List.{append-nil, length-take-le}
use Rattle.rvm_recorder.proofs.Checks.{Checked, all_below, all_checked, fault_above, fault_none, fault_told, fault_twice, no_entry, one_more}
use Rattle.rvm_recorder.proofs.ReceiptSpans.{at_count, at_place, at_seat, item_at, item_length}
use Rattle.rvm_recorder.proofs.Spans.{drop_all_of, drop_drop, entry_at, get_drop, get_left, get_right, next_at, next_left, next_within, none_next}
use Rattle.rvm_recorder.specs.Entries.{PlainEntry}

less_or : (n k : ℕ) → (k < n) ⊎ (n ≤ k)
less_or n k = grind arith

same_or : (a b : ℕ) → (a ≡ b) ⊎ (a ≢ b)
same_or a b = grind arith

le_self : (n : ℕ) → n ≤ n
le_self n = omega arith

lower : (a b : ℕ) → a ≤ b → b ≢ a → a < b
lower a b le differ = elim (same_or b a) [ inl is ↦ absurd (differ is) | inr other ↦ grind (arith, le, other) ]

get_take : {X : Type 0} (xs : List X) (n i : ℕ) → i < n → slice_get (take n xs) i ≡ slice_get xs i
get_take [] zero i less = refl
get_take [] (suc n) i less = refl
get_take (x ∷ xs) zero i less = absurd (omega (arith, less))
get_take (x ∷ xs) (suc n) zero less = refl
get_take (x ∷ xs) (suc n) (suc i) less = get_take xs n i (omega (arith, less))

length_drop : {X : Type 0} (xs : List X) (p : ℕ) → length (drop p xs) ≡ length xs - p
length_drop [] zero = refl
length_drop [] (suc p) = omega arith
length_drop (x ∷ xs) zero = omega arith
length_drop (x ∷ xs) (suc p) = let l = length_drop xs p in omega (arith, l)

-- an item has a receipt
some_in : (x : ReceiptItem) → 1 ≤ count_in x
some_in (item.One r) = omega arith
some_in (item.Steps s) = s.some
some_in (item.Rounds r) = r.some

-- a receipt of items is of the first, or of those after it
in_first : (x : ReceiptItem) (items : List ReceiptItem) (k : ℕ) (r : PlainReceipt) → slice_get (all_of (x ∷ items)) k ≡ Some r
    → k < count_in x → r ≡ receipt_at x k
in_first x items k r at less =
    let long = item_length x in
    same_Some r (receipt_at x k) (sym at ∙ get_left (receipts_of x) (all_of items) k (omega (arith, long, less)) ∙ item_at x k less)

in_rest : (x : ReceiptItem) (items : List ReceiptItem) (k : ℕ) (r : PlainReceipt) → slice_get (all_of (x ∷ items)) k ≡ Some r
    → count_in x ≤ k → slice_get (all_of items) (k - count_in x) ≡ Some r
in_rest x items k r at le =
    let long = item_length x in
    let there : length (receipts_of x) + (k - count_in x) ≡ k = omega (arith, long, le) in
    sym (get_right (receipts_of x) (all_of items) (k - count_in x)) ∙ ap (slice_get (receipts_of x ++ all_of items)) there ∙ at

-- the receipts of items from a place on are of no lower place
items_from : (q : ℕ) (items : List ReceiptItem) → AreFrom q items → (k : ℕ) (r : PlainReceipt)
    → slice_get (all_of items) k ≡ Some r → q ≤ r.place
items_from q [] from k r at = cc
items_from q (x ∷ items) from k r at = elim (less_or (count_in x) k) [
  | inl less ↦
      let is = ap (λ (y : PlainReceipt). y.place) (in_first x items k r at less) in
      let p = at_place x k less in let f = from.0 in omega (arith, p, f, is)
  | inr le ↦ items_from q items from.1 (k - count_in x) r (in_rest x items k r at le)
]

-- no receipt is of a place below that of the first item
later_from : (items : List ReceiptItem) (u : ℕ) → AreRising items → first_place items ≡ Some u → (k : ℕ) (r : PlainReceipt)
    → slice_get (all_of items) k ≡ Some r → u ≤ r.place
later_from [] u rising is k r at = cc
later_from (x ∷ items) u rising is k r at =
    let same : place_of x ≡ u = same_Some (place_of x) u is in
    subst (λ q. q ≤ r.place) same (items_from (place_of x) (x ∷ items) (le_self (place_of x), rising.0) k r at)

none_later : (items : List ReceiptItem) → first_place items ≡ None → (k : ℕ) (r : PlainReceipt) → slice_get (all_of items) k ≡ Some r → ⊥
none_later [] is k r at = cc
none_later (x ∷ items) is k r at = cc

first_low : (items : List ReceiptItem) (u : ℕ) {q : ℕ} → AreFrom q items → first_place items ≡ Some u → q ≤ u
first_low [] u from is = cc
first_low (x ∷ items) u from is = let same = same_Some (place_of x) u is in let f = from.0 in omega (arith, same, f)

-- the first receipt
first_there : (items : List ReceiptItem) (u : ℕ) → first_place items ≡ Some u → (r : PlainReceipt) × (slice_get (all_of items) 0 ≡ Some r) × (r.place ≡ u)
first_there [] u is = cc
first_there (x ∷ items) u is =
    let some = some_in x in
    let long = item_length x in
    let zero_less : 0 < count_in x = omega (arith, some) in
    let place = at_place x 0 zero_less in
    let same : place_of x ≡ u = same_Some (place_of x) u is in
    (receipt_at x 0, get_left (receipts_of x) (all_of items) 0 (omega (arith, long, some)) ∙ item_at x 0 zero_less, omega (arith, place, same))

-- the last count of each seat after this many receipts of an item
abbrev noted : (ℕ → Option ℕ) → ReceiptItem → ℕ → ℕ → Option ℕ
noted last x zero q = last q
noted last x (suc i) q = cond (q == seat_in x) (Some (calls_before x + i)) (last q)

noted_same : (last : ℕ → Option ℕ) (x : ReceiptItem) (i q : ℕ) → q ≡ seat_in x → noted last x (suc i) q ≡ Some (calls_before x + i)
noted_same last x i q is = ap (λ b. cond b (Some (calls_before x + i)) (last q)) (eq-eqb q (seat_in x) is)

noted_other : (last : ℕ → Option ℕ) (x : ReceiptItem) (i q : ℕ) → q ≢ seat_in x → noted last x i q ≡ last q
noted_other last x zero q differ = refl
noted_other last x (suc i) q differ = ap (λ b. cond b (Some (calls_before x + i)) (last q)) (ne_eqb q (seat_in x) differ)

-- what is checked with one function is checked with any of the same values
pub checked_as : (entries : List PlainEntry) (rs : List PlainReceipt) (f g : ℕ → Option ℕ) (p : ℕ) → ((q : ℕ) → g q ≡ f q)
    → Checked entries rs f p → Checked entries rs g p
checked_as entries rs f g p same so = record {
  len = so.len;
  place = so.place;
  event = so.event;
  reply = so.reply;
  rises = so.rises;
  covers = λ k r lt there. (let c = so.covers k r lt there in (c.0, same r.seat ∙ c.1, c.2));
  from = λ seat c got. so.from seat c (sym (same seat) ∙ got);
  apart = so.apart;
}

-- a fault at a place up to which all is right, if there is a receipt of that place or a higher one
fault_at : (entries : List PlainEntry) (rs : List PlainReceipt) (last : ℕ → Option ℕ) (p : ℕ) (r : PlainReceipt) → Checked entries rs last p
    → p ≤ length entries → slice_get rs p ≡ Some r → (p < length entries → IsRightAt entries rs p → ⊥) → IsFirstFault entries rs p
fault_at entries rs last p r so le here wrong = (
  all_below entries rs last p so le,
  elim (less_or (length entries) p) [
    | inl less ↦ inl (less, wrong less)
    | inr over ↦
        let is : p ≡ length entries = omega (arith, le, over) in
        let place = so.apart p r (le_self p) here in
        inr (is, record { index = p; receipt = r; stands = here; past = omega (arith, place, is) })
  ],
)

module _ (entries : List PlainEntry) (rs : List PlainReceipt) (last : ℕ → Option ℕ) (p : ℕ) (x : ReceiptItem)
    (later : List ReceiptItem) (so : Checked entries rs last p) (behind : drop p rs ≡ all_of (x ∷ later))
    (rising : AreRising (x ∷ later)) (inside : p ≤ length entries) where
  -- a receipt from there on
  from_here : (k : ℕ) (r : PlainReceipt) → p ≤ k → slice_get rs k ≡ Some r → slice_get (all_of (x ∷ later)) (k - p) ≡ Some r
  from_here k r le at =
      let there : p + (k - p) ≡ k = omega (arith, le) in
      ap (λ zs. slice_get zs (k - p)) (sym behind) ∙ get_drop rs p (k - p) ∙ ap (slice_get rs) there ∙ at

  here_at : (i : ℕ) → i < count_in x → slice_get rs (p + i) ≡ Some (receipt_at x i)
  here_at i less =
      let long = item_length x in
      sym (get_drop rs p i) ∙ ap (λ zs. slice_get zs i) behind
      ∙ get_left (receipts_of x) (all_of later) i (omega (arith, long, less)) ∙ item_at x i less

  later_first : (r : PlainReceipt) → slice_get (all_of later) 0 ≡ Some r → slice_get rs (p + count_in x) ≡ Some r
  later_first r is =
      let long = item_length x in
      let same : count_in x ≡ length (receipts_of x) + 0 = omega (arith, long) in
      sym (get_drop rs p (count_in x)) ∙ ap (λ zs. slice_get zs (count_in x)) behind
      ∙ ap (slice_get (receipts_of x ++ all_of later)) same ∙ get_right (receipts_of x) (all_of later) 0 ∙ is

  first_here : slice_get rs p ≡ Some (receipt_at x 0)
  first_here =
      let some = some_in x in
      let same : p + 0 ≡ p = omega arith in
      ap (slice_get rs) (sym same) ∙ here_at 0 (omega (arith, some))

  first_place_is : (receipt_at x 0).place ≡ place_of x
  first_place_is = let some = some_in x in let at = at_place x 0 (omega (arith, some)) in omega (arith, at)

  -- the next receipt is of another place
  pub wrong_place : place_of x ≢ p → IsFirstFault entries rs p
  wrong_place differ =
      let low = so.apart p (receipt_at x 0) (le_self p) first_here in
      let at = first_place_is in
      let above : p < place_of x = lower p (place_of x) (omega (arith, low, at)) differ in
      fault_at entries rs last p (receipt_at x 0) so inside first_here (λ less. fault_none entries rs last p so
      (λ k r le there. (let q = items_from (place_of x) (x ∷ later) (le_self (place_of x), rising.0) (k - p) r (from_here k r le there) in omega (arith, q, above))))

  -- it was made no later than another one of its seat
  pub wrong_count : place_of x ≡ p → (c : ℕ) → last (seat_in x) ≡ Some c → calls_before x ≤ c → IsFirstFault entries rs p
  wrong_count at c got le =
      let some = some_in x in
      let calls = at_count x 0 (omega (arith, some)) in
      let place = first_place_is in
      fault_at entries rs last p (receipt_at x 0) so inside first_here (λ less. fault_above entries rs last p so
      (receipt_at x 0) c first_here (omega (arith, place, at)) (ap last (at_seat x 0) ∙ got) (omega (arith, calls, le)))

  module _ (at : place_of x ≡ p) (above : (c : ℕ) → last (seat_in x) ≡ Some c → c < calls_before x)
      (new : List PlainEntry) (c : ℕ) (tells : Tells x (drop p entries) new (first_place later) c) where
    -- the counts of the seat so far
    above_at : (i n : ℕ) → noted last x i (seat_in x) ≡ Some n → n < calls_before x + i
    above_at zero n got = let less = above n got in omega (arith, less)
    above_at (suc i) n got =
        let is = same_Some (calls_before x + i) n (sym (noted_same last x i (seat_in x) refl) ∙ got) in omega (arith, is)

    behind_later : (i : ℕ) → i < c → (o : Option ℕ) → first_place later ≡ o → (r : PlainReceipt) (k : ℕ)
        → slice_get (all_of later) k ≡ Some r → p + i < r.place
    behind_later i less None is r k there = absurd (none_later later is k r there)
    behind_later i less (Some u) is r k there =
        let from = later_from later u rising.1 is k r there in
        let low = first_low later u rising.0 is in
        elim (less_or u (p + i)) [
          | inl below ↦ omega (arith, from, below)
          | inr over ↦
              let same : p + (u - p) ≡ u = omega (arith, low, at) in
              absurd (tells.free (u - p) (omega (arith, over, less, low, at)) (is ∙ ap Some (omega (arith, low, at))))
        ]

    -- no later receipt is of that place
    behind_at : (i : ℕ) → i < c → (k : ℕ) (r : PlainReceipt) → p + i + 1 ≤ k → slice_get rs k ≡ Some r → p + i < r.place
    behind_at i less k r le there =
        let few = tells.few in
        let got = from_here k r (omega (arith, le)) there in
        (elim (less_or (count_in x) (k - p)) [
          | inl within ↦
              let is = ap (λ (y : PlainReceipt). y.place) (in_first x later (k - p) r got within) in
              let place = at_place x (k - p) within in omega (arith, is, place, at, le)
          | inr past ↦ behind_later i less (first_place later) refl r (k - p - count_in x) (in_rest x later (k - p) r got past)
        ])

    -- so far all is right
    right : (i : ℕ) → i ≤ c → Checked entries rs (noted last x i) (p + i)
    right zero le =
        let same : p ≡ p + 0 = omega arith in
        subst (Checked entries rs (noted last x 0)) same (checked_as entries rs last (noted last x 0) p (λ q. refl) so)
    right (suc i) le =
        let less : i < c = omega (arith, le) in
        let few = tells.few in
        let there = tells.there in
        let within : i < count_in x = omega (arith, less, few) in
        let before = right i (omega (arith, le)) in
        let e = get_or (drop p entries) i no_entry in
        let e_at = slice_get-get_or (drop p entries) i no_entry (omega (arith, less, there)) in
        let is_of = tells.told i e less e_at in
        let s = receipt_at x i in
        let place = at_place x i within in
        let calls = at_count x i within in
        let more : p + i + 1 ≡ p + suc i = omega arith in
        subst (Checked entries rs (noted last x (suc i))) more
        (one_more entries rs (noted last x i) (p + i) before e (sym (get_drop entries p i) ∙ e_at) s (here_at i within)
        (omega (arith, place, at)) is_of.0 is_of.1
        (λ n got. (let l = above_at i n (ap (noted last x i) (sym (at_seat x i)) ∙ got) in omega (arith, l, calls)))
        (behind_at i less) (noted last x (suc i))
        (noted_same last x i s.seat (at_seat x i) ∙ ap Some (sym calls))
        (λ q differ. noted_other last x (suc i) q (λ e'. differ (e' ∙ sym (at_seat x i)))
        ∙ sym (noted_other last x i q (λ e'. differ (e' ∙ sym (at_seat x i))))))

    inside_at : p + c ≤ length entries
    inside_at = let there = tells.there in let long = length_drop entries p in omega (arith, there, long, inside)

    wrong_cases : c < count_in x → p + c < length entries → (receipt_at x c).place ≡ p + c
        → (first_place later ≡ Some (place_of x + c)) ⊎ ((length (drop p entries) ≡ c) ⊎ Differs x (drop p entries) c)
        → IsRightAt entries rs (p + c) → ⊥
    wrong_cases less within place (inl until) =
        let y = first_there later (place_of x + c) until in
        let next : slice_get rs (p + count_in x) ≡ Some y.0 = later_first y.0 y.1 in
        let there : y.0.place ≡ p + c = y.2 ∙ ap (λ q. q + c) at in
        fault_twice entries rs (noted last x c) (p + c) (right c (le_self c)) (p + count_in x) (receipt_at x c) y.0 (here_at c less) place
        next there (omega (arith, less))
    wrong_cases less within place (inr (inl over)) =
        let long = length_drop entries p in absurd (omega (arith, over, long, within))
    wrong_cases less within place (inr (inr differs)) =
        fault_told entries rs (noted last x c) (p + c) (right c (le_self c)) (receipt_at x c) differs.entry (here_at c less) place
        (sym (get_drop entries p c) ∙ differs.at) differs.differ

    -- the next one is wrong
    pub wrong_next : c < count_in x → IsFirstFault entries rs (p + c)
    wrong_next less =
        let s = receipt_at x c in
        let place : s.place ≡ p + c = at_place x c less ∙ ap (λ q. q + c) at in
        fault_at entries rs (noted last x c) (p + c) s (right c (le_self c)) inside_at (here_at c less)
        (λ within. wrong_cases less within place (tells.stopped less))

    -- all are right
    pub all_right : c ≡ count_in x → (f : ℕ → Option ℕ) → f (seat_in x) ≡ Some (calls_before x + (count_in x - 1))
        → ((q : ℕ) → q ≢ seat_in x → f q ≡ last q) → Checked entries rs f (p + c)
    all_right all f same other =
        let some = some_in x in
        let one : suc (c - 1) ≡ c = omega (arith, all, some) in
        checked_as entries rs (noted last x c) f (p + c)
        (λ q. elim (same_or q (seat_in x)) [
          | inl is ↦
              ap f is ∙ same ∙ ap (λ n. Some (calls_before x + n)) (omega (arith, all))
              ∙ sym (noted_same last x (c - 1) q is) ∙ ap (λ n. noted last x n q) one
          | inr differ ↦ other q differ ∙ sym (noted_other last x c q differ)
        ]) (right c (le_self c))

    pub rest_of : c ≡ count_in x → drop (p + c) rs ≡ all_of later
    rest_of all =
        let long = item_length x in
        let same : c ≡ length (receipts_of x) = omega (arith, all, long) in
        sym (drop_drop rs p c) ∙ ap (drop c) behind ∙ ap (λ n. drop n (receipts_of x ++ all_of later)) same
        ∙ drop_all_of (receipts_of x) (all_of later)

    pub left_of : c ≡ count_in x → new ≡ drop (p + c) entries
    left_of all = tells.left all ∙ drop_drop entries p c

    pub inside_still : p + c ≤ length entries
    inside_still = inside_at

-- HOW FAR RECEIPTS TELL

-- the first c receipts of an item are told
pub record SoFar (x : ReceiptItem) (old now : List PlainEntry) (until : Option ℕ) (c : ℕ) : Type 0 where
  pub few : c ≤ count_in x
  pub there : c ≤ length old
  pub left : now ≡ drop c old
  pub told : (i : ℕ) (e : PlainEntry) → i < c → slice_get old i ≡ Some e → IsOf (receipt_at x i) e
  pub free : (i : ℕ) → i < c → until ≡ Some (place_of x + i) → ⊥

pub none_told : (x : ReceiptItem) (old : List PlainEntry) (until : Option ℕ) → SoFar x old old until 0
none_told x old until = record {
  few = omega arith;
  there = omega arith;
  left = refl;
  told = λ i e less at. absurd (omega (arith, less));
  free = λ i less at. absurd (omega (arith, less));
}

-- entries were passed at once
pub after_skip : (x : ReceiptItem) (old now new : List PlainEntry) (until : Option ℕ) (c n : ℕ) → SoFar x old now until c
    → Skips x c now new until n → SoFar x old new until (c + n)
after_skip x old now new until c n so skips =
    let there = skips.there in
    let long = length_drop old c in
    let len = ap length so.left in
    record {
      few = skips.few;
      there = (let t = so.there in omega (arith, there, long, len, t));
      left = skips.left ∙ ap (drop n) so.left ∙ drop_drop old c n;
      told = λ i e less at. (elim (less_or c i) [
        | inl below ↦ so.told i e below at
        | inr le ↦
            let is : c + (i - c) ≡ i = omega (arith, le) in
            subst (λ k. IsOf (receipt_at x k) e) is
            (skips.told (i - c) e (omega (arith, le, less)) (ap (λ zs. slice_get zs (i - c)) so.left ∙ get_drop old c (i - c) ∙ ap (slice_get old) is ∙ at))
      ]);
      free = λ i less at. (elim (less_or c i) [
        | inl below ↦ so.free i below at
        | inr le ↦
            let is : i ≡ c + (i - c) = omega (arith, le) in
            skips.free (i - c) (omega (arith, le, less)) (at ∙ ap (λ k. Some (place_of x + k)) is)
      ]);
    }

module _ (x : ReceiptItem) (old now : List PlainEntry) (until : Option ℕ) (c : ℕ) (so : SoFar x old now until c) where
  -- all receipts of the item are told
  pub tells_all : c ≡ count_in x → Tells x old now until c
  tells_all all = record {
    few = so.few;
    there = so.there;
    told = so.told;
    free = so.free;
    left = λ _. so.left;
    stopped = λ less. absurd (omega (arith, all, less));
  }

  -- the next receipt has the place of the next item
  pub tells_until : (new : List PlainEntry) → c < count_in x → until ≡ Some (place_of x + c) → Tells x old new until c
  tells_until new less is = record {
    few = so.few;
    there = so.there;
    told = so.told;
    free = so.free;
    left = λ all. absurd (omega (arith, all, less));
    stopped = λ _. inl is;
  }

  -- no entry is left
  pub tells_all_left : (new : List PlainEntry) → c < count_in x → now ≡ [] → Tells x old new until c
  tells_all_left new less none = record {
    few = so.few;
    there = so.there;
    told = so.told;
    free = so.free;
    left = λ is. absurd (omega (arith, is, less));
    stopped = λ _. inr (inl (none_next old c (sym so.left ∙ none) so.there));
  }

  -- the next entry is another one
  pub tells_another : (e : PlainEntry) (rest new : List PlainEntry) → c < count_in x → now ≡ e ∷ rest → (IsOf (receipt_at x c) e → ⊥)
      → Tells x old new until c
  tells_another e rest new less next differ = record {
    few = so.few;
    there = so.there;
    told = so.told;
    free = so.free;
    left = λ is. absurd (omega (arith, is, less));
    stopped = λ _. inr (inr (record { entry = e; at = next_at old c e rest (sym so.left ∙ next); differ = differ }));
  }

  below_or : (i : ℕ) → i < c + 1 → (i < c) ⊎ (i ≡ c)
  below_or i less = grind (arith, less)

  -- one more receipt is told
  pub one_told : (e : PlainEntry) (rest : List PlainEntry) → c < count_in x → now ≡ e ∷ rest → IsOf (receipt_at x c) e
      → (until ≡ Some (place_of x + c) → ⊥) → SoFar x old rest until (c + 1)
  one_told e rest less next of none =
      let within = next_within old c e rest (sym so.left ∙ next) in
      record {
        few = omega (arith, less);
        there = omega (arith, within);
        left = next_left old c e rest (sym so.left ∙ next);
        told = λ i e' below at. (elim (below_or i below) [
          | inl before ↦ so.told i e' before at
          | inr is ↦
              let same : e ≡ e' = same_Some e e' (sym (next_at old c e rest (sym so.left ∙ next)) ∙ ap (slice_get old) (sym is) ∙ at) in
              subst (λ k. IsOf (receipt_at x k) e') (sym is) (subst (IsOf (receipt_at x c)) same of)
        ]);
        free = λ i below at. (elim (below_or i below) [
          | inl before ↦ so.free i before at
          | inr is ↦ none (at ∙ ap (λ k. Some (place_of x + k)) is)
        ]);
      }

-- a skip may pass nothing
pub skipped_none : (x : ReceiptItem) (index : ℕ) (left : List PlainEntry) (until : Option ℕ) → index ≤ count_in x → Skips x index left left until 0
skipped_none x index left until few = record {
  few = omega (arith, few);
  there = omega arith;
  left = refl;
  told = λ i e less at. absurd (omega (arith, less));
  free = λ i less at. absurd (omega (arith, less));
}

pub skipped_some : (s : StepReceipts) (index n t : ℕ) (old new : List PlainEntry) (until : Option ℕ) → index + n ≤ s.steps.count
    → t ≡ s.steps.turn + index → old ≡ steps_in_turn t s.steps.harts n ++ new
    → ((i : ℕ) → i < n → until ≡ Some (s.place + (index + i)) → ⊥) → Skips (item.Steps s) index old new until n
skipped_some s index n t old new until few at is free =
    let long = steps_length t s.steps.harts n in
    record {
      few = few;
      there = omega (arith, ap length is, long, length-append (steps_in_turn t s.steps.harts n) new);
      left = sym (ap (drop n) is ∙ ap (λ k. drop k (steps_in_turn t s.steps.harts n ++ new)) (sym long) ∙ drop_all_of (steps_in_turn t s.steps.harts n) new);
      told = λ i e less there.
          (let e_is : step_entry (t + i) s.steps.harts (Stepped Retired) ≡ e =
          same_Some (step_entry (t + i) s.steps.harts (Stepped Retired)) e
          (sym (entry_at i t s.steps.harts n less) ∙ sym (get_left (steps_in_turn t s.steps.harts n) new i (omega (arith, long, less)))
          ∙ ap (λ zs. slice_get zs i) (sym is) ∙ there) in
          let turn : s.steps.turn + (index + i) ≡ t + i = omega (arith, at) in
          subst (IsOf (receipt_at (item.Steps s) (index + i))) e_is
          (ap (λ k. step_of_hart (k % s.steps.harts)) turn, refl));
      free = free;
    }

-- steps that are left of a round
pub skipped_row : (r : RoundReceipts) (index n : ℕ) (row : Steps) (old new : List PlainEntry) (until : Option ℕ) → IsRowAt r.rounds index row
    → n ≤ row.count → old ≡ steps_in_turn row.turn row.harts n ++ new
    → ((i : ℕ) → i < n → until ≡ Some (r.place + (index + i)) → ⊥) → Skips (item.Rounds r) index old new until n
skipped_row r index n row old new until at le is free =
    let rs = r.rounds in
    let long = steps_length row.turn row.harts n in
    let count = at.count in
    let inside = row_inside rs.harts rs.steps rs.drain rs.count index at.inside in
    let fits = row_fits rs.harts rs.steps rs.drain index n row.count at.count le in
    record {
      few = omega (arith, inside, count, le);
      there = omega (arith, ap length is, long, length-append (steps_in_turn row.turn row.harts n) new);
      left = sym (ap (drop n) is ∙ ap (λ k. drop k (steps_in_turn row.turn row.harts n ++ new)) (sym long) ∙ drop_all_of (steps_in_turn row.turn row.harts n) new);
      told = λ i e less there.
          (let e_is : step_entry (row.turn + i) row.harts (Stepped Retired) ≡ e =
          same_Some (step_entry (row.turn + i) row.harts (Stepped Retired)) e
          (sym (entry_at i row.turn row.harts n less) ∙ sym (get_left (steps_in_turn row.turn row.harts n) new i (omega (arith, long, less)))
          ∙ ap (λ zs. slice_get zs i) (sym is) ∙ there) in
          let kept : entry_in rs (index + i) ≡ e =
          ap (λ o. unwrap_or o (dry_entry 0)) (row_step rs.harts rs.steps rs.drain rs.turn rs.count index i row.turn at.inside (omega (arith, fits, less)) at.turn)
          ∙ ap (λ h. step_entry (row.turn + i) h (Stepped Retired)) (sym at.harts) ∙ e_is in
          (ap (λ (x : PlainEntry). x.event) kept, ap (λ (x : PlainEntry). x.reply) kept));
      free = free;
    }

-- the first receipts of rounds
pub skipped_rounds : (r : RoundReceipts) (n : ℕ) (old new : List PlainEntry) (until : Option ℕ)
    → n ≤ r.rounds.count * (r.rounds.steps + 1) → old ≡ take n (rounds_of r.rounds) ++ new
    → ((i : ℕ) → i < n → until ≡ Some (r.place + (0 + i)) → ⊥) → Skips (item.Rounds r) 0 old new until n
skipped_rounds r n old new until le is free =
    let rs = r.rounds in
    let whole = rounds_length rs.turn rs.harts rs.steps rs.drain rs.count in
    let first = take n (rounds_of rs) in
    let long : length first ≡ n = length-take-le n (rounds_of rs) (omega (arith, whole, le)) in
    record {
      few = omega (arith, le);
      there = omega (arith, ap length is, long, length-append first new);
      left = sym (ap (drop n) is ∙ ap (λ k. drop k (first ++ new)) (sym long) ∙ drop_all_of first new);
      told = λ i e less there.
          (let z : 0 + i ≡ i = omega arith in
          let at : slice_get (rounds_of rs) (0 + i) ≡ Some e =
          ap (slice_get (rounds_of rs)) z ∙ sym (get_take (rounds_of rs) n i less)
          ∙ sym (get_left first new i (omega (arith, long, less))) ∙ ap (λ zs. slice_get zs i) (sym is) ∙ there in
          let kept : entry_in rs (0 + i) ≡ e = ap (λ o. unwrap_or o (dry_entry 0)) at in
          (ap (λ (x : PlainEntry). x.event) kept, ap (λ (x : PlainEntry). x.reply) kept));
      free = free;
    }

-- THE ORDER OF ITEMS

pub rising_drop : (items : List ReceiptItem) (k : ℕ) → AreRising items → AreRising (drop k items)
rising_drop [] zero rising = tt
rising_drop [] (suc k) rising = tt
rising_drop (x ∷ items) zero rising = rising
rising_drop (x ∷ items) (suc k) rising = rising_drop items k rising.1

from_all : (p : ℕ) (items : List ReceiptItem) → ((k : ℕ) (d : ReceiptItem) → k < length items → p ≤ place_of (get_or items k d)) → AreFrom p items
from_all p [] all = tt
from_all p (x ∷ items) all =
    (all 0 x (omega arith), from_all p items (λ k d less. all (suc k) d (omega (arith, less))))

pub rising_by : (items : List ReceiptItem)
    → ((i j : ℕ) (d : ReceiptItem) → i ≤ j → j < length items → place_of (get_or items i d) ≤ place_of (get_or items j d)) → AreRising items
rising_by [] all = tt
rising_by (x ∷ items) all = (
  from_all (place_of x) items (λ k d less. all 0 (suc k) d (omega arith) (omega (arith, less))),
  rising_by items (λ i j d le less. all (suc i) (suc j) d (omega (arith, le)) (omega (arith, less))),
)

-- THE END

module _ (entries : List PlainEntry) (rs : List PlainReceipt) (last : ℕ → Option ℕ) (p : ℕ) (so : Checked entries rs last p)
    (behind : drop p rs ≡ []) (inside : p ≤ length entries) where
  got_none : (zs : List PlainReceipt) (k : ℕ) (r : PlainReceipt) → zs ≡ [] → slice_get zs k ≡ Some r → ⊥
  got_none [] k r is at = cc
  got_none (z ∷ zs) k r is at = cc

  none_behind : (k : ℕ) (r : PlainReceipt) → p ≤ k → slice_get rs k ≡ Some r → ⊥
  none_behind k r le there =
      let at : p + (k - p) ≡ k = omega (arith, le) in
      got_none (drop p rs) (k - p) r behind (get_drop rs p (k - p) ∙ ap (slice_get rs) at ∙ there)

  -- an entry is left
  pub wrong_end : (e : PlainEntry) (rest : List PlainEntry) → drop p entries ≡ e ∷ rest → IsFirstFault entries rs p
  wrong_end e rest left =
      let less = next_within entries p e rest left in (
        all_below entries rs last p so inside,
        inl (less, fault_none entries rs last p so (λ k r le there. absurd (none_behind k r le there))),
      )

  -- none is left
  pub right_end : drop p entries ≡ [] → IsJournal entries rs
  right_end left =
      let all = none_next entries p left inside in
      let many = none_next rs p behind so.len in
      all_checked entries rs last (subst (Checked entries rs last) (sym all) so) (omega (arith, all, many))

-- THE LAST OF ALL

-- no more items than receipts
pub few_items : (items : List ReceiptItem) → length items ≤ length (all_of items)
few_items [] = omega arith
few_items (x ∷ items) =
    let some = some_in x in
    let rest = few_items items in
    omega (arith, some, rest, item_length x, length-append (receipts_of x) (all_of items))

-- the items after one have fewer receipts, by the number that it has
pub count_left : (items : List ReceiptItem) (k : ℕ) (x : ReceiptItem) → drop k items ≡ x ∷ drop (k + 1) items
    → length (all_of (drop k items)) ≡ count_in x + length (all_of (drop (k + 1) items))
count_left items k x is =
    let long = item_length x in
    ap (λ zs. length (all_of zs)) is ∙ omega (arith, long, length-append (receipts_of x) (all_of (drop (k + 1) items)))

-- the last receipt is the last of the last item
pub last_is : (items : List ReceiptItem) (x : ReceiptItem) → 0 < length items → get_or items (length items - 1) x ≡ x
    → slice_get (all_of items) (length (all_of items) - 1) ≡ Some (receipt_at x (count_in x - 1))
last_is [] x some is = absurd (omega (arith, some))
last_is (y ∷ []) x some is =
    let y_is : y ≡ x = is in
    let one = some_in y in
    let long = item_length y in
    let all : all_of (y ∷ []) ≡ receipts_of y = append-nil (receipts_of y) in
    (λ i. slice_get (all i) (length (all i) - 1)) ∙ ap (λ n. slice_get (receipts_of y) (n - 1)) long
    ∙ item_at y (count_in y - 1) (omega (arith, one)) ∙ ap (λ z. Some (receipt_at z (count_in z - 1))) y_is
last_is (y ∷ (z ∷ items)) x some is =
    let same : suc (suc (length items)) - 1 ≡ suc (suc (length items) - 1) = omega arith in
    let rest = all_of (z ∷ items) in
    let more = few_items (z ∷ items) in
    let n : length (receipts_of y ++ rest) - 1 ≡ length (receipts_of y) + (length rest - 1) =
    omega (arith, more, length-append (receipts_of y) rest) in
    ap (slice_get (receipts_of y ++ rest)) n ∙ get_right (receipts_of y) rest (length rest - 1)
    ∙ last_is (z ∷ items) x (omega arith)
    (sym (ap (λ k. get_or (y ∷ (z ∷ items)) k x) same) ∙ is)
