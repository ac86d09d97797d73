-- What a call of a shared host returns and records.
use Rattle.std.specs.Prelude.{◌≡◌, ◌⊎◌, ℕ, suc, ◌+◌, ◌<◌, false, true, List, length, map, Option, Some, slice_get}
use Rattle.rvm_recorder.specs.Receipts.{PlainReceipt}
use Rattle.rvm_recorder.specs.Seats.{PlainSeat, seat_of}
use Rattle.rvm_frame.specs.declared.addressed.Addressed.{Addressed}
use Rattle.rvm_recorder.specs.History.{IsRecorded, Recording, count_of}
use Rattle.rvm_recorder.specs.Slices.{IsSliceRecorded, step_of}
use Rattle.rvm_message.specs.declared.event.HostEvent.{HostEvent}
use Rattle.rvm_message.specs.declared.reply.HostReply.{HostReply}
use Rattle.rvm_message.specs.Replies.{ends_steps, reply_of}

-- the receipt is one of this event, for this seat, with the number of calls that it had made
pub record IsReceipt (seat : PlainSeat) (event : HostEvent) (r : PlainReceipt) : Type 0 where
  pub seat_is : r.seat ≡ seat.id
  pub count : r.count ≡ seat.count
  pub event_is : r.event ≡ event

-- the event was recorded under the lock, at the place and with the reply of the receipt, and made this frame, if any
pub record IsCalled (old : Recording) (seat : PlainSeat) (event : HostEvent) (answer : PlainReceipt × Option Addressed)
    (new : Recording) : Type 0 where
  pub receipt : IsReceipt seat event answer.0
  pub recorded : IsRecorded old event (answer.0.place, answer.0.reply, answer.1) new

-- the receipts of a slice: their places are consecutive, and each keeps its step and one call more than the one before
pub record AreReceipts (seat : PlainSeat) (place turn harts : ℕ) (rs : List PlainReceipt) : Type 0 where
  pub place_is : (k : ℕ) (r : PlainReceipt) → slice_get rs k ≡ Some r → r.place ≡ place + k
  pub each : (k : ℕ) (r : PlainReceipt) → slice_get rs k ≡ Some r
      → IsReceipt (seat_of seat.id (seat.count + k)) (step_of (turn + k) harts) r

-- the receipts of a slice, at some place; only the last of the steps may end the slice
pub record AreOfSeat (seat : PlainSeat) (turn harts : ℕ) (rs : List PlainReceipt) : Type 0 where
  pub place : ℕ
  pub receipts : AreReceipts seat place turn harts rs
  pub goes_on : (k : ℕ) (r : PlainReceipt) → slice_get rs k ≡ Some r → suc k < length rs
      → ends_steps (reply_of r.reply) ≡ false

-- a slice with fewer steps than were asked for ends at the last place of the journal, or with a reply that ends a slice
abbrev pub IsWhole : (capacity n : ℕ) → List PlainReceipt → Type 0
IsWhole capacity n rs = (k : ℕ) (r : PlainReceipt) → slice_get rs k ≡ Some r → suc k ≡ length rs → length rs < n
    → (suc r.place ≡ capacity) ⊎ (ends_steps (reply_of r.reply) ≡ true)

-- the replies of these receipts
abbrev pub replies_of : List PlainReceipt → List HostReply
replies_of rs = map (λ r. r.reply) rs

-- a slice was recorded under the lock, with the replies of these receipts
pub record IsSliceCalled (old : Recording) (seat : PlainSeat) (turn harts n : ℕ) (rs : List PlainReceipt)
    (new : Recording) : Type 0 where
  pub receipts : AreReceipts seat (count_of old) turn harts rs
  pub recorded : IsSliceRecorded old turn harts n (count_of old, replies_of rs) new
