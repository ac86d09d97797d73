-- Receipts after those that are there.
use Rattle.std.proofs.Common.{◌≡◌, ◌∙◌, ℕ, zero, suc, ◌+◌, ◌-◌, ◌<◌, List, [], ◌∷◌, ◌++◌, append-nil, get_or, length, length-append, Some, Result, Ok, Err, ap, refl, sym, subst, arith, inl, inr}
use Rattle.std.proofs.lemmas.List.Elements.{All-push}
use Rattle.std.proofs.lemmas.List.Concat.{flat_map-append}
use Rattle.std.specs.List.{All}
use Rattle.std.specs.Prelude.{slice_get, ◌⊎◌, IfOk, IfSome, IsOk, OnErr, is_ok, if◌then◌else◌, option_map}
use Rattle.rvm_recorder.specs.Receipts.{PlainReceipt}
use Rattle.std.proofs.lemmas.Option.{same_Some, slice_get-get_or}
use Rattle.rvm_recorder.specs.Calls.{AreOfSeat, IsReceipt}
use Rattle.rvm_recorder.specs.declared.items.ReceiptItem.{ReceiptItem}
use Rattle.rvm_recorder.specs.declared.items.ReceiptItem.TheVariants as item
use Rattle.rvm_recorder.specs.Entries.{PlainEntry}
use Rattle.rvm_recorder.specs.Runs.{all_of, count_in}
use Rattle.rvm_recorder.specs.Telling.{receipt_at}
use Rattle.rvm_recorder.proofs.Runs.{all_append}
use Rattle.rvm_recorder.proofs.RoundsTold.{last_dry}
use Rattle.rvm_recorder.proofs.Tellings.{last_is}
use Rattle.rvm_recorder.specs.Seats.{PlainSeat, seat_of}
use Rattle.rvm_message.specs.declared.event.HostEvent.{HostEvent}
use Rattle.rvm_message.specs.declared.reply.HostReply.{HostReply}
use Rattle.rvm_message.specs.Exchanges.{exchange}
use Rattle.rvm_cell.specs.declared.end.WorkEnd.{WorkEnd}
use Rattle.rvm_cell.specs.Endings.{last_of}
use Rattle.rvm_cell.specs.Heard.{frame_in, frames_in}
use Rattle.rvm_cell.specs.Turns.{after_step}
use Rattle.rvm_station.specs.declared.turn.Then.{Then}
use Rattle.rvm_station.specs.declared.turn.Then.TheVariants.{GoOn}
use Rattle.rvm_cell.specs.Work.{AreOfReceiver, IsCall, IsOfReceiver, IsWork, PlainCaller}

-- what stands in two lists stands in the first, or in the second
got_either : {X : Type 0} (xs ys : List X) (b : X) (k : ℕ) → slice_get (xs ++ ys) k ≡ Some b
    → (slice_get xs k ≡ Some b) ⊎ ((j : ℕ) × (k ≡ length xs + j) × (slice_get ys j ≡ Some b))
got_either {X} [] ys b k h = let at : k ≡ length {A = X} [] + k = omega arith in inr (k, at, h)
got_either {X} (x ∷ xs) ys b zero h = inl h
got_either {X} (x ∷ xs) ys b (suc k) h = elim (got_either xs ys b k h) [
  | inl there ↦ inl there
  | inr behind ↦
      let at : suc k ≡ length (x ∷ xs) + behind.0 = omega (arith, behind.1) in inr (behind.0, at, behind.2)
]

-- a slice is work, after work
pub work_slice : (first seat new : PlainSeat) (turn harts : ℕ) (before slice : List PlainReceipt)
    → IsWork first seat before → AreOfSeat seat turn harts slice → new ≡ seat_of seat.id (seat.count + length slice)
    → IsWork first new (before ++ slice)
work_slice first seat new turn harts before slice work are is =
    let id = ap (λ s. s.id) work.seat_is in
    let count = ap (λ s. s.count) work.seat_is in
    record {
      seat_is = is ∙ ap (λ s. seat_of s.id (s.count + length slice)) work.seat_is
          ∙ ap (seat_of first.id) (omega (arith, length-append before slice));
      row = λ k r h. (elim (got_either before slice r k h) [
        | inl there ↦ work.row k r there
        | inr behind ↦
            let each = are.receipts.each behind.0 r behind.2 in
            (each.seat_is ∙ id, omega (arith, each.count, count, behind.1))
      ]);
    }

in_one : (first seat : PlainSeat) (e : HostEvent) (r s : PlainReceipt) (before : List PlainReceipt) (k j : ℕ) → IsReceipt seat e r
    → seat.id ≡ first.id → seat.count ≡ first.count + length before → k ≡ length before + j → slice_get (r ∷ []) j ≡ Some s
    → (s.seat ≡ first.id) × (s.count ≡ first.count + k)
in_one first seat e r s before k zero of id count at is =
    let r_is : r ≡ s = same_Some r s is in
    let n = of.count in
    (ap (λ (x : PlainReceipt). x.seat) (sym r_is) ∙ of.seat_is ∙ id, omega (arith, n, count, at, ap (λ (x : PlainReceipt). x.count) r_is))
in_one first seat e r s before k (suc j) of id count at is = cc

-- a call is work, after work
pub work_call : (first seat new : PlainSeat) (e : HostEvent) (before : List PlainReceipt) (r : PlainReceipt)
    → IsWork first seat before → IsReceipt seat e r → new ≡ seat_of seat.id (seat.count + 1) → IsWork first new (before ++ r ∷ [])
work_call first seat new e before r work of is =
    let id = ap (λ s. s.id) work.seat_is in
    let count = ap (λ s. s.count) work.seat_is in
    record {
      seat_is = is ∙ ap (λ s. seat_of s.id (s.count + 1)) work.seat_is
          ∙ ap (seat_of first.id) (omega (arith, length-append before (r ∷ [])));
      row = λ k s h. (elim (got_either before (r ∷ []) s k h) [
        | inl there ↦ work.row k s there
        | inr behind ↦ in_one first seat e r s before k behind.0 of id count behind.1 behind.2
      ]);
    }

-- items were appended
pub all_appended : {T E : Type 0} (r : Result T E) (new old more : List ReceiptItem)
    → new ≡ (if is_ok r then old ++ more else old) → IsOk r → all_of new ≡ all_of old ++ all_of more
all_appended (Ok x) new old more is ok = ap all_of is ∙ all_append old more
all_appended (Err e) new old more is ok = absurd cc

-- the last of all receipts is the last of the last item
pub last_got : (items : List ReceiptItem) (x : ReceiptItem) (last : Then) → Some x ≡ slice_get items (length items - 1)
    → last ≡ after_step (receipt_at x (count_in x - 1)).reply
    → IfSome (slice_get (all_of items) (length (all_of items) - 1)) (λ r. after_step r.reply ≡ last)
last_got [] x last is told = tt
last_got (y ∷ items) x last is told =
    let all = y ∷ items in
    let some : 0 < length all = omega arith in
    let within : length all - 1 < length all = omega arith in
    let got : get_or all (length all - 1) x ≡ x =
    same_Some (get_or all (length all - 1) x) x (sym (slice_get-get_or all (length all - 1) x within) ∙ sym is) in
    subst (λ o. IfSome o (λ r. after_step r.reply ≡ last)) (sym (last_is all x some got)) (sym told)

-- the next turn comes after the last receipt of an item that is not one receipt
pub others_go_on : (x : ReceiptItem) → ((r : PlainReceipt) → x ≡ item.One r → ⊥)
    → GoOn ≡ after_step (receipt_at x (count_in x - 1)).reply
others_go_on (item.One r) other = absurd (other r refl)
others_go_on (item.Steps s) other = refl
others_go_on (item.Rounds r) other = ap (λ (e : PlainEntry). after_step e.reply) (sym (last_dry r))

-- a value after all of a list is its last
got_last : {X : Type 0} (xs : List X) (x : X) → slice_get (xs ++ x ∷ []) (length xs) ≡ Some x
got_last [] x = refl
got_last (y ∷ xs) x = got_last xs x

-- the last of some calls is the one that was made last
pub last_called : (old new : PlainSeat) (e : HostEvent) (before behind : List PlainReceipt) (reply : HostReply)
    → IsCall old e before new behind reply → last_of behind ≡ Some (exchange e reply)
last_called old new e before behind reply call =
    let r = call.receipt in
    let len : length (before ++ r ∷ []) - 1 ≡ length before = omega (arith, length-append before (r ∷ [])) in
    let here = subst (λ n. slice_get (before ++ r ∷ []) n ≡ Some r) (sym len) (got_last before r) in
    let got = subst (λ l. slice_get l (length l - 1) ≡ Some r) (sym call.added) here in
    ap (option_map (λ s. exchange s.event s.reply)) got ∙ (λ i. Some (exchange (call.of_event.event_is i) (call.answered i)))

-- the frame that came with a call is the last one that came
pub heard_called : (old new : PlainSeat) (e : HostEvent) (before behind : List PlainReceipt) (reply : HostReply)
    → IsCall old e before new behind reply → frames_in behind ≡ frames_in before ++ frame_in e
heard_called old new e before behind reply call =
    let r = call.receipt in
    ap frames_in call.added ∙ flat_map-append (λ s. frame_in s.event) before (r ∷ [])
    ∙ ap (λ l. frames_in before ++ l) (append-nil (frame_in r.event) ∙ ap frame_in call.of_event.event_is)

-- all calls are of such events if one more is, or if none was made
all_called : {A : Type 0} (P : HostEvent → Type 0) (e : HostEvent) (old new : PlainCaller) (reply : A → HostReply)
    (result : Result A WorkEnd) → All (λ r. P r.event) old.receipts → P e
    → IfOk result (λ c. IsCall old.seat e old.receipts new.seat new.receipts (reply c)) → OnErr result (new ≡ old)
    → All (λ r. P r.event) new.receipts
all_called P e old new reply (Ok c) all here call same =
    subst (λ l. All (λ r. P r.event) l) (sym call.added)
    (All-push (λ r. P r.event) old.receipts call.receipt all (subst P (sym call.of_event.event_is) here))
all_called P e old new reply (Err end) all here call same = subst (λ c. All (λ r. P r.event) c.receipts) (sym same) all

-- a receiver makes one more of its calls, or none
pub receiver_more : {A : Type 0} (from : ℕ) (e : HostEvent) (old new : PlainCaller) (reply : A → HostReply)
    (result : Result A WorkEnd) → AreOfReceiver from old.receipts → IsOfReceiver from e
    → IfOk result (λ c. IsCall old.seat e old.receipts new.seat new.receipts (reply c)) → OnErr result (new ≡ old)
    → AreOfReceiver from new.receipts
receiver_more from = all_called (IsOfReceiver from)
