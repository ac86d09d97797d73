-- The receipts of a slice, one more of them.
use Rattle.std.proofs.Common.{◌≡◌, ◌∙◌, ℕ, zero, suc, ◌+◌, List, [], ◌∷◌, ◌++◌, ◌-◌, ◌≤◌, min, length, map, Some, refl, sym, ap, subst, arith, inl, inr}
use Rattle.std.specs.Prelude.{slice_get, ◌⊎◌}
use Rattle.std.proofs.lemmas.Bool.{cases_lt}
use Rattle.std.proofs.lemmas.List.{length-map}
use Rattle.std.proofs.lemmas.Option.{same_Some}
use Rattle.rvm_recorder.specs.Receipts.{PlainReceipt}
use Rattle.rvm_recorder.specs.Calls.{AreOfSeat, AreReceipts, IsReceipt, IsSliceCalled, IsWhole, replies_of}
use Rattle.rvm_recorder.specs.Seats.{PlainSeat, seat_of}
use Rattle.rvm_recorder.specs.Entries.{PlainEntry}
use Rattle.rvm_recorder.specs.History.{Recording, count_of}
use Rattle.rvm_recorder.specs.Slices.{step_of}
use Rattle.rvm_message.specs.declared.reply.HostReply.{HostReply}
use Rattle.rvm_message.specs.Replies.{ends_steps, reply_of}

-- a value of a list with one more at its end is in the list, or is the last one
got_or_last : {X : Type 0} (xs : List X) (a b : X) (k : ℕ) → slice_get (xs ++ a ∷ []) k ≡ Some b
    → (slice_get xs k ≡ Some b) ⊎ ((k ≡ length xs) × (a ≡ b))
got_or_last [] a b zero h = inr (refl, same_Some a b h)
got_or_last [] a b (suc k) h = inl h
got_or_last (x ∷ xs) a b zero h = inl h
got_or_last (x ∷ xs) a b (suc k) h = elim (got_or_last xs a b k h) [
  | inl there ↦ inl there
  | inr last ↦ inr (ap suc last.0, last.1)
]

-- no receipts
pub no_receipts : (seat : PlainSeat) (place turn harts : ℕ) → AreReceipts seat place turn harts []
no_receipts seat place turn harts = record {
  place_is = λ k r h. cc;
  each = λ k r h. cc;
}

-- receipts with one more after them
pub more_receipts : (seat : PlainSeat) (place turn harts : ℕ) (rs : List PlainReceipt) (r : PlainReceipt)
    → AreReceipts seat place turn harts rs → r.place ≡ place + length rs
    → IsReceipt (seat_of seat.id (seat.count + length rs)) (step_of (turn + length rs) harts) r
    → AreReceipts seat place turn harts (rs ++ r ∷ [])
more_receipts seat place turn harts rs r so at is = record {
  place_is = λ k s h. (elim (got_or_last rs r s k h) [
    | inl there ↦ so.place_is k s there
    | inr last ↦ ap (λ (x : PlainReceipt). x.place) (sym last.1) ∙ at ∙ ap (λ n. place + n) (sym last.0)
  ]);
  each = λ k s h. (elim (got_or_last rs r s k h) [
    | inl there ↦ so.each k s there
    | inr last ↦
        subst (λ x. IsReceipt (seat_of seat.id (seat.count + k)) (step_of (turn + k) harts) x) last.1
        (subst (λ n. IsReceipt (seat_of seat.id (seat.count + n)) (step_of (turn + n) harts) r) (sym last.0) is)
  ]);
}

-- a slice has a step, and no more than it was asked for
pub slice_has_steps : (old new : Recording) (seat : PlainSeat) (turn harts n : ℕ) (rs : List PlainReceipt)
    → IsSliceCalled old seat turn harts n rs new → (1 ≤ length rs) × (length rs ≤ n)
slice_has_steps old new seat turn harts n rs is =
    let steps = is.recorded.steps in
    let same : length rs ≡ length steps.entries =
    sym (length-map rs (λ (x : PlainReceipt). x.reply)) ∙ ap length steps.replies_are ∙ length-map steps.entries (λ x. x.reply) in
    let most : min n (old.capacity - count_of old) ≤ n = omega arith in
    (omega (arith, same, steps.slice.some), omega (arith, same, steps.slice.bound, most))

head_is : (a b : HostReply) (xs ys : List HostReply) → a ∷ xs ≡ b ∷ ys → a ≡ b
head_is a b xs ys e = cc

tail_is : (a b : HostReply) (xs ys : List HostReply) → a ∷ xs ≡ b ∷ ys → xs ≡ ys
tail_is a b xs ys e = cc

-- if receipts have the replies of entries, each receipt has the reply of the entry with its index
same_at : (rs : List PlainReceipt) (xs : List PlainEntry) (k : ℕ) (r : PlainReceipt) → replies_of rs ≡ map (λ x. x.reply) xs
    → slice_get rs k ≡ Some r → (x : PlainEntry) × (slice_get xs k ≡ Some x) × (r.reply ≡ x.reply)
same_at [] xs k r same here = cc
same_at (s ∷ rs) [] k r same here = cc
same_at (s ∷ rs) (x ∷ xs) zero r same here =
    (x, refl, ap (λ (y : PlainReceipt). y.reply) (sym (same_Some s r here)) ∙ head_is _ _ _ _ same)
same_at (s ∷ rs) (x ∷ xs) (suc k) r same here = same_at rs xs k r (tail_is _ _ _ _ same) here

-- if a slice has fewer steps than were asked for, they go up to the last place, or the last of them ends it
pub slice_is_whole : (old new : Recording) (seat : PlainSeat) (capacity turn harts n : ℕ) (rs : List PlainReceipt)
    → old.capacity ≡ capacity → IsSliceCalled old seat turn harts n rs new → IsWhole capacity n rs
slice_is_whole old new seat capacity turn harts n rs takes is k r here last short =
    let steps = is.recorded.steps in
    let same : length rs ≡ length steps.entries =
    sym (length-map rs (λ (x : PlainReceipt). x.reply)) ∙ ap length steps.replies_are ∙ length-map steps.entries (λ x. x.reply) in
    let entry = same_at rs steps.entries k r steps.replies_are here in
    elim (cases_lt (length steps.entries) (min n (old.capacity - count_of old))) [
      | inl less ↦
          inr (ap (λ y. ends_steps (reply_of y)) entry.2
          ∙ steps.slice.ended k entry.0 entry.1 (omega (arith, same, last)) less)
      | inr all ↦
          inl (omega (arith, same, last, short, all, takes, steps.slice.some, steps.slice.bound, is.receipts.place_is k r here))
    ]

-- all but the last of its steps go on
pub slice_of_seat : (old new : Recording) (seat : PlainSeat) (turn harts n : ℕ) (rs : List PlainReceipt)
    → IsSliceCalled old seat turn harts n rs new → AreOfSeat seat turn harts rs
slice_of_seat old new seat turn harts n rs is =
    let steps = is.recorded.steps in
    let same : length rs ≡ length steps.entries =
    sym (length-map rs (λ (x : PlainReceipt). x.reply)) ∙ ap length steps.replies_are ∙ length-map steps.entries (λ x. x.reply) in
    record {
      place = count_of old;
      receipts = is.receipts;
      goes_on = λ k r here more.
          (let entry = same_at rs steps.entries k r steps.replies_are here in
          ap (λ y. ends_steps (reply_of y)) entry.2
          ∙ steps.slice.goes_on k entry.0 entry.1 (omega (arith, same, more)));
    }
