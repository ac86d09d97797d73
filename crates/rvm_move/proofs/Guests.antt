-- The events of the guest in a journal are the calls of one worker.
use Rattle.std.proofs.Common.{◌≡◌, ◌∙◌, ℕ, zero, suc, ◌+◌, ◌<◌, Bool, true, false, cond, List, [], ◌∷◌, ◌++◌, length, map, Some, refl, sym, ap, subst, arith, inl, inr}
use Rattle.std.proofs.lemmas.List.Elements.{All-cons, All-contains, All-contains_itself, All-filter, All-head, All-nil, All-tail, All-weaker, Contains-append_cases, Contains-append_left, filter_passes}
use Rattle.std.proofs.lemmas.List.Sorted.{All-permutation, Contains-permutation, IsPermutation-sym}
use Rattle.std.proofs.lemmas.Option.{slice_get-get_or}
use Rattle.std.specs.List.{All, Contains, filter}
use Rattle.std.specs.List.Sorted.{IsPermutation}
use Rattle.std.specs.Prelude.{slice_get, ◌⊎◌}
use Rattle.rvm_recorder.specs.Close.{IsJournal}
use Rattle.rvm_recorder.specs.Receipts.{PlainReceipt}
use Rattle.rvm_recorder.specs.Seats.{PlainSeat}
use Rattle.rvm_recorder.specs.Entries.{PlainEntry, exchange_of}
use Rattle.rvm_recorder.specs.History.{is_board}
use Rattle.rvm_message.specs.declared.event.HostEvent.{HostEvent}
use Rattle.rvm_message.specs.Exchanges.{exchange}
use Rattle.rvm_move.specs.Hosts.{AreAll}
use Rattle.rvm_move.specs.Runs.{AreOfOne, called_of_guest, of_guest}
use Rattle.rvm_cell.specs.Work.{IsWork}

-- WHAT IS IN A LIST

module _ {X : Type 0} where
  pub head_in : (x : X) (xs : List X) → Contains (x ∷ xs) x
  head_in x xs = (zero, omega arith, refl)

  pub tail_in : (y x : X) (xs : List X) → Contains xs x → Contains (y ∷ xs) x
  tail_in y x xs h = let lt = h.1 in (suc h.0, omega arith, h.2)

  in_cases : (y x : X) (xs : List X) → Contains (y ∷ xs) x → (y ≡ x) ⊎ Contains xs x
  in_cases y x xs (zero, lt, is) = inl is
  in_cases y x xs (suc k, lt, is) = inr (k, omega (arith, lt), is)

  none_in : (x : X) → Contains [] x → ⊥
  none_in x h = let lt = h.1 in absurd (omega arith)

  all_from : (P : X → Type 0) (xs : List X) → ((x : X) → Contains xs x → P x) → All P xs
  all_from P xs h = All-weaker (Contains xs) P h xs (All-contains_itself xs)

  got : (xs : List X) (x : X) (c : Contains xs x) → slice_get xs c.0 ≡ Some x
  got xs x c = slice_get-get_or xs c.0 x c.1 ∙ ap Some c.2

  module _ (p : X → Bool) where
    passed : (xs : List X) (x : X) → Contains (filter p xs) x → p x ≡ true
    passed xs x c = All-contains (λ y. p y ≡ true) (filter p xs) x (filter_passes p xs) c

    was_in : (xs : List X) (x : X) → Contains (filter p xs) x → Contains xs x
    was_in xs x c = All-contains (Contains xs) (filter p xs) x (All-filter p (Contains xs) xs (All-contains_itself xs)) c

    stays_at : (b : Bool) (x : X) (xs : List X) → b ≡ true → Contains (cond b (x ∷ xs) xs) x
    stays_at true x xs is = head_in x xs
    stays_at false x xs is = absurd cc

    stays_behind : (b : Bool) (y x : X) (xs : List X) → Contains xs x → Contains (cond b (y ∷ xs) xs) x
    stays_behind true y x xs c = tail_in y x xs c
    stays_behind false y x xs c = c

    stays : (xs : List X) (x : X) → Contains xs x → p x ≡ true → Contains (filter p xs) x
    stays [] x c is = absurd (none_in x c)
    stays (y ∷ xs) x c is = elim (in_cases y x xs c) [
      | inl here ↦ subst (λ z. Contains (filter p (y ∷ xs)) z) here (stays_at (p y) y (filter p xs) (ap p here ∙ is))
      | inr there ↦ stays_behind (p y) y x (filter p xs) (stays xs x there is)
    ]

-- LISTS IN WHICH THE COUNT RISES

abbrev Rises : List PlainReceipt → Type 0
Rises [] = Unit {0}
Rises (r ∷ rs) = All (λ s. r.count < s.count) rs × Rises rs

-- the first of two such lists are the same, if the lists have the same receipts
same_front : (x y : PlainReceipt) (xs ys : List PlainReceipt) → All (λ s. x.count < s.count) xs
    → All (λ s. y.count < s.count) ys → Contains (y ∷ ys) x → Contains (x ∷ xs) y → y ≡ x
same_front x y xs ys a b x_in y_in = elim (in_cases y x ys x_in) [
  | inl is ↦ is
  | inr behind_y ↦ elim (in_cases x y xs y_in) [
    | inl is ↦ sym is
    | inr behind_x ↦
        let up = All-contains (λ s. x.count < s.count) xs y a behind_x in
        let down = All-contains (λ s. y.count < s.count) ys x b behind_y in absurd (omega arith)
  ]
]

-- the receipts after the first of one list are those after the first of the other
behind : (x y : PlainReceipt) (xs ys : List PlainReceipt) → y ≡ x → All (λ s. x.count < s.count) xs
    → ((r : PlainReceipt) → Contains (x ∷ xs) r → Contains (y ∷ ys) r) → (r : PlainReceipt) → Contains xs r → Contains ys r
behind x y xs ys is a into r c = elim (in_cases y r ys (into r (tail_in x r xs c))) [
  | inl first ↦
      let up = All-contains (λ s. x.count < s.count) xs r a c in
      let level = ap (λ z. z.count) (sym is ∙ first) in absurd (omega arith)
  | inr there ↦ there
]

same_rising : (xs ys : List PlainReceipt) → Rises xs → Rises ys → ((r : PlainReceipt) → Contains xs r → Contains ys r)
    → ((r : PlainReceipt) → Contains ys r → Contains xs r) → xs ≡ ys
same_rising [] [] a b into back = refl
same_rising [] (y ∷ ys) a b into back = absurd (none_in y (back y (head_in y ys)))
same_rising (x ∷ xs) [] a b into back = absurd (none_in x (into x (head_in x xs)))
same_rising (x ∷ xs) (y ∷ ys) a b into back =
    let is = same_front x y xs ys a.0 b.0 (into x (head_in x xs)) (back y (head_in y ys)) in
    let rest = same_rising xs ys a.1 b.1 (behind x y xs ys is a.0 into) (behind y x ys xs (sym is) b.0 back) in
    ap (λ z. z ∷ xs) (sym is) ∙ ap (λ l. y ∷ l) rest

module _ (p : PlainReceipt → Bool) where
  rises_if : (b : Bool) (r : PlainReceipt) (rs : List PlainReceipt) → (b ≡ true → All (λ s. r.count < s.count) rs) → Rises rs
      → Rises (cond b (r ∷ rs) rs)
  rises_if true r rs above rise = (above refl, rise)
  rises_if false r rs above rise = rise

  -- some receipts of a list in which the count rises
  rises_kept : (rs : List PlainReceipt) → Rises rs → Rises (filter p rs)
  rises_kept [] rise = tt
  rises_kept (r ∷ rs) rise =
      rises_if (p r) r (filter p rs) (λ _. All-filter p (λ s. r.count < s.count) rs rise.0) (rises_kept rs rise.1)

  -- the receipts of one seat, in the order of a journal
  rises_ordered : (rs : List PlainReceipt) (seat : ℕ)
      → ((j k : ℕ) (s r : PlainReceipt) → j < k → slice_get rs j ≡ Some s → slice_get rs k ≡ Some r → s.seat ≡ r.seat → s.count < r.count)
      → ((r : PlainReceipt) → Contains rs r → p r ≡ true → r.seat ≡ seat) → Rises (filter p rs)
  rises_ordered [] seat rise of = tt
  rises_ordered (r ∷ rs) seat rise of =
      rises_if (p r) r (filter p rs)
      (λ is. all_from (λ s. r.count < s.count) (filter p rs) (λ s c.
      (let there = was_in p rs s c in
      let alike = of r (head_in r rs) is ∙ sym (of s (tail_in r s rs there) (passed p rs s c)) in
      rise zero (suc there.0) r s (omega arith) refl (got rs s there) alike)))
      (rises_ordered rs seat (λ j k s t lt a b same. rise (suc j) (suc k) s t (omega (arith, lt)) a b same)
      (λ s c is. of s (tail_in r s rs c) is))

-- in the calls of one seat the count rises
rises_row : (rs : List PlainReceipt) (from : ℕ) → ((k : ℕ) (r : PlainReceipt) → slice_get rs k ≡ Some r → r.count ≡ from + k)
    → Rises rs
rises_row [] from row = tt
rises_row (r ∷ rs) from row = (
  all_from (λ s. r.count < s.count) rs (λ s c.
      (let first = row zero r refl in let later = row (suc c.0) s (got rs s c) in omega arith)),
  rises_row rs (suc from) (λ k s there. (let at = row (suc k) s there in omega arith)),
)

-- A JOURNAL AND ITS RECEIPTS

abbrev drives : PlainReceipt → Bool
drives r = is_board r.event

alike_if : (b : Bool) (e : PlainEntry) (r : PlainReceipt) (es : List PlainEntry) (rs : List PlainReceipt) → r.event ≡ e.event
    → r.reply ≡ e.reply → map exchange_of es ≡ map (λ s. exchange s.event s.reply) rs
    → map exchange_of (cond b (e ∷ es) es) ≡ map (λ s. exchange s.event s.reply) (cond b (r ∷ rs) rs)
alike_if false e r es rs event reply rest = rest
alike_if true e r es rs event reply rest =
    ap (λ l. exchange_of e ∷ l) rest
    ∙ (λ i. exchange (sym event i) (sym reply i) ∷ map (λ s. exchange s.event s.reply) rs)

told_alike : (es : List PlainEntry) (rs : List PlainReceipt) → length rs ≡ length es
    → ((k : ℕ) (r : PlainReceipt) (e : PlainEntry) → slice_get rs k ≡ Some r → slice_get es k ≡ Some e → r.event ≡ e.event)
    → ((k : ℕ) (r : PlainReceipt) (e : PlainEntry) → slice_get rs k ≡ Some r → slice_get es k ≡ Some e → r.reply ≡ e.reply)
    → of_guest es ≡ called_of_guest rs
told_alike [] [] len event reply = refl
told_alike [] (r ∷ rs) len event reply = absurd (omega (arith, len))
told_alike (e ∷ es) [] len event reply = absurd (omega (arith, len))
told_alike (e ∷ es) (r ∷ rs) len event reply =
    let rest = told_alike es rs (omega (arith, len)) (λ k s f a b. event (suc k) s f a b) (λ k s f a b. reply (suc k) s f a b) in
    let here = event zero r e refl refl in
    alike_if (is_board e.event) e r (filter (λ f. is_board f.event) es) (filter (λ s. is_board s.event) rs) here (reply zero r e refl refl) rest
    ∙ ap (λ x. map (λ s. exchange s.event s.reply) (cond (is_board x) (r ∷ filter (λ s. is_board s.event) rs) (filter (λ s. is_board s.event) rs))) (sym here)

-- ONE WORKER

-- no call of these is an event of the guest
abbrev pub AreNoneOfGuest : List PlainReceipt → Type 0
AreNoneOfGuest receipts = All (λ r. is_board r.event ≡ false) receipts

module _ (entries : List PlainEntry) (own others ordered : List PlainReceipt) (first last : PlainSeat)
    (work : IsWork first last own) (moved : AreNoneOfGuest others) (same : IsPermutation (own ++ others) ordered)
    (journal : IsJournal entries ordered) where
  -- an event of the guest is the worker's
  is_own : (r : PlainReceipt) → Contains ordered r → drives r ≡ true → Contains own r
  is_own r c is = elim (Contains-append_cases own others r (Contains-permutation ordered (own ++ others) r (IsPermutation-sym (own ++ others) ordered same) c)) [
    | inl there ↦ there
    | inr other ↦ let none = All-contains (λ s. is_board s.event ≡ false) others r moved other in absurd cc
  ]

  of_seat : (r : PlainReceipt) → Contains ordered r → drives r ≡ true → r.seat ≡ first.id
  of_seat r c is = let there = is_own r c is in (work.row there.0 r (got own r there)).0

  into : (r : PlainReceipt) → Contains (filter drives ordered) r → Contains (filter drives own) r
  into r c =
      let is = passed drives ordered r c in stays drives own r (is_own r (was_in drives ordered r c) is) is

  back : (r : PlainReceipt) → Contains (filter drives own) r → Contains (filter drives ordered) r
  back r c =
      stays drives ordered r
      (Contains-permutation (own ++ others) ordered r same (Contains-append_left own others r (was_in drives own r c)))
      (passed drives own r c)

  pub of_one_worker : of_guest entries ≡ called_of_guest own
  of_one_worker =
      told_alike entries ordered journal.len journal.event journal.reply
      ∙ ap (map (λ r. exchange r.event r.reply))
      (same_rising (filter drives ordered) (filter drives own)
      (rises_ordered drives ordered first.id journal.rises of_seat)
      (rises_kept drives own (rises_row own first.count (λ k r there. (work.row k r there).1)))
      into back)

-- the events of the guest in a journal are the calls of one worker, if the others have none
pub guest_of_one : (entries : List PlainEntry) (own others : List PlainReceipt) → AreAll entries (own ++ others)
    → AreOfOne own → AreNoneOfGuest others → of_guest entries ≡ called_of_guest own
guest_of_one entries own others told one moved =
    of_one_worker entries own others told.closed.ordered one.first one.last one.work moved told.closed.same told.closed.journal

-- ALL EVENTS

module _ (P : HostEvent → Type 0) where
  asked_alike : (es : List PlainEntry) (rs : List PlainReceipt) → length rs ≡ length es
      → ((k : ℕ) (r : PlainReceipt) (e : PlainEntry) → slice_get rs k ≡ Some r → slice_get es k ≡ Some e → r.event ≡ e.event)
      → All (λ r. P r.event) rs → All (λ e. P e.event) es
  asked_alike [] rs len event all = All-nil (λ e. P e.event)
  asked_alike (e ∷ es) [] len event all = absurd (omega (arith, len))
  asked_alike (e ∷ es) (r ∷ rs) len event all =
      All-cons (λ f. P f.event) e es (subst P (event zero r e refl refl) (All-head (λ s. P s.event) r rs all))
      (asked_alike es rs (omega (arith, len)) (λ k s f a b. event (suc k) s f a b) (All-tail (λ s. P s.event) r rs all))

  -- what holds of each call holds of each entry
  pub all_asked : (entries : List PlainEntry) (receipts : List PlainReceipt) → AreAll entries receipts
      → All (λ r. P r.event) receipts → All (λ e. P e.event) entries
  all_asked entries receipts told all =
      let ordered = told.closed.ordered in
      asked_alike entries ordered told.closed.journal.len told.closed.journal.event
      (All-permutation (λ r. P r.event) receipts ordered told.closed.same all)
