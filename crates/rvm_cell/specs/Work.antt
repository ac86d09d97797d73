-- What the calls of a seat leave.
use Rattle.std.specs.List.{All}
use Rattle.std.specs.Prelude.{◌≡◌, ℕ, ◌+◌, ◌-◌, List, [], ◌∷◌, ◌++◌, length, IfSome, Option, Some, slice_get}
use Rattle.rvm_recorder.specs.Calls.{AreOfSeat, IsReceipt, IsWhole}
use Rattle.rvm_recorder.specs.Seats.{PlainSeat, seat_of}
use Rattle.rvm_recorder.specs.Receipts.{PlainReceipt}
use Rattle.rvm_frame.specs.declared.frame.Frame.{Frame}
use Rattle.rvm_message.specs.declared.event.HostEvent.{HostEvent}
use Rattle.rvm_message.specs.declared.event.HostEvent.TheVariants as event
use Rattle.rvm_message.specs.declared.reply.HostReply.{HostReply}
use Rattle.rvm_message.specs.Exchanges.{PlainExchange}
use Rattle.rvm_precopy.specs.declared.policy.Policy.{Policy}
use Rattle.rvm_station.specs.Movers.{IsOfCopier}
use Rattle.rvm_cell.specs.declared.steps.SliceSteps.{SliceSteps}
use Rattle.rvm_cell.specs.Turns.{after_step}

-- the receipts are those of the seat's calls since it was at `first`, in order
pub record IsWork (first seat : PlainSeat) (receipts : List PlainReceipt) : Type 0 where
  pub seat_is : seat ≡ seat_of first.id (first.count + length receipts)
  pub row : (k : ℕ) (r : PlainReceipt) → slice_get receipts k ≡ Some r
      → (r.seat ≡ first.id) × (r.count ≡ first.count + k)

-- what a receiver tells its host: a frame of host `from` came
abbrev pub IsOfReceiver : (from : ℕ) → HostEvent → Type 0
IsOfReceiver from (event.Came x frame) = x ≡ from
IsOfReceiver from e = ⊥

-- each of these calls is one of a copier's
abbrev pub AreOfCopier : (to : ℕ) → Policy → List PlainReceipt → Type 0
AreOfCopier to policy receipts = All (λ r. IsOfCopier to policy r.event) receipts

-- each of these calls is one of a receiver's
abbrev pub AreOfReceiver : (from : ℕ) → List PlainReceipt → Type 0
AreOfReceiver from receipts = All (λ r. IsOfReceiver from r.event) receipts

-- a copier: where it moves its guest and with which policy, its seat before the first call, its last call, and the
-- number of consecutive calls since for which memory ran out
pub record PlainCopier : Type 0 where
  pub to : ℕ
  pub policy : Policy
  pub start : PlainSeat
  pub last : Option PlainExchange
  pub refused : ℕ

-- a receiver: whose frames it hears, and to whom, its seat before the first call, the frames that came, and its last
-- call
pub record PlainReceiver : Type 0 where
  pub from : ℕ
  pub to : ℕ
  pub start : PlainSeat
  pub heard : List Frame
  pub last : Option PlainExchange

-- a caller: its seat before the first call, its seat now, and the receipts of the calls between
pub record PlainCaller : Type 0 where
  pub start : PlainSeat
  pub seat : PlainSeat
  pub receipts : List PlainReceipt

-- one call was made, with this reply: its receipt stands after the others
pub record IsCall (old : PlainSeat) (event : HostEvent) (before : List PlainReceipt) (new : PlainSeat)
    (behind : List PlainReceipt) (reply : HostReply) : Type 0 where
  pub receipt : PlainReceipt
  pub of_event : IsReceipt old event receipt
  pub answered : receipt.reply ≡ reply
  pub added : behind ≡ before ++ receipt ∷ []
  pub counted : new ≡ seat_of old.id (old.count + 1)

-- the receipts of a slice tell its steps
pub record AreSliceSteps (receipts : List PlainReceipt) (steps : SliceSteps) : Type 0 where
  pub count : steps.count ≡ length receipts
  pub last : IfSome (slice_get receipts (length receipts - 1)) (λ r. after_step r.reply ≡ steps.then)

-- one slice of at most n steps was made, at a journal that takes `capacity` entries: the receipts of its steps stand
-- after the others
pub record IsSliceCall (old : PlainSeat) (capacity turn harts n : ℕ) (before : List PlainReceipt) (new : PlainSeat)
    (behind : List PlainReceipt) (steps : SliceSteps) : Type 0 where
  pub receipts : List PlainReceipt
  pub of_seat : AreOfSeat old turn harts receipts
  pub whole : IsWhole capacity n receipts
  pub told : AreSliceSteps receipts steps
  pub added : behind ≡ before ++ receipts
  pub counted : new ≡ seat_of old.id (old.count + length receipts)
