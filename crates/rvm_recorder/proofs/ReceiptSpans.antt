-- The receipts of an item by index.
use Rattle.std.proofs.Common.{◌≡◌, ◌∙◌, ℕ, zero, suc, ◌+◌, ◌<◌, List, [], ◌∷◌, length, Some, refl, ap, arith}
use Rattle.std.specs.Prelude.{slice_get, unwrap_or}
use Rattle.rvm_hart.specs.declared.outcome.Stepped.TheVariants.{Retired}
use Rattle.rvm_recorder.specs.declared.items.ReceiptItem.{ReceiptItem}
use Rattle.rvm_recorder.specs.declared.items.ReceiptItem.TheVariants as item
use Rattle.rvm_recorder.specs.Runs.{calls_before, count_in, place_of, receipts_from, receipts_of, seat_in, step_receipt, steps_receipts}
use Rattle.rvm_recorder.specs.Telling.{receipt_at}
use Rattle.rvm_recorder.specs.Entries.{PlainEntry}
use Rattle.rvm_recorder.specs.Items.{dry_entry, rounds_of}
use Rattle.rvm_recorder.proofs.InRounds.{rounds_length}
use Rattle.rvm_message.specs.declared.step.StepReply.TheVariants.{Stepped}

-- the receipts of an item by index
steps_at : (i place seat count turn harts n : ℕ) → i < n → slice_get (steps_receipts place seat count turn harts n) i
    ≡ Some (step_receipt (place + i) seat (count + i) (turn + i) harts (Stepped Retired))
unfolding steps_receipts
steps_at i place seat count turn harts zero less = absurd (omega (arith, less))
steps_at zero place seat count turn harts (suc n) less =
    let p : place ≡ place + 0 = omega arith in
    let c : count ≡ count + 0 = omega arith in
    let t : turn ≡ turn + 0 = omega arith in λ j. Some (step_receipt (p j) seat (c j) (t j) harts (Stepped Retired))
steps_at (suc i) place seat count turn harts (suc n) less =
    let p : place + 1 + i ≡ place + suc i = omega arith in
    let c : count + 1 + i ≡ count + suc i = omega arith in
    let t : turn + 1 + i ≡ turn + suc i = omega arith in
    steps_at i (place + 1) seat (count + 1) (turn + 1) harts n (omega (arith, less))
    ∙ (λ j. Some (step_receipt (p j) seat (c j) (t j) harts (Stepped Retired)))

steps_count : (place seat count turn harts n : ℕ) → length (steps_receipts place seat count turn harts n) ≡ n
unfolding steps_receipts
steps_count place seat count turn harts zero = refl
steps_count place seat count turn harts (suc n) = ap suc (steps_count (place + 1) seat (count + 1) (turn + 1) harts n)

-- each entry has one receipt
from_count : (place seat count : ℕ) (es : List PlainEntry) → length (receipts_from place seat count es) ≡ length es
from_count place seat count [] = refl
from_count place seat count (e ∷ es) = ap suc (from_count (place + 1) seat (count + 1) es)

from_at : (i place seat count : ℕ) (es : List PlainEntry) (d : PlainEntry) → i < length es
    → slice_get (receipts_from place seat count es) i ≡ Some (record {
      place = place + i;
      seat = seat;
      count = count + i;
      event = (unwrap_or (slice_get es i) d).event;
      reply = (unwrap_or (slice_get es i) d).reply;
    })
from_at i place seat count [] d less = absurd (omega (arith, less))
from_at zero place seat count (e ∷ es) d less =
    let p : place ≡ place + 0 = omega arith in
    let c : count ≡ count + 0 = omega arith in
    λ j. Some (record { place = p j; seat = seat; count = c j; event = e.event; reply = e.reply })
from_at (suc i) place seat count (e ∷ es) d less =
    let p : place + 1 + i ≡ place + suc i = omega arith in
    let c : count + 1 + i ≡ count + suc i = omega arith in
    from_at i (place + 1) seat (count + 1) es d (omega (arith, less))
    ∙ (λ j. Some (record {
      place = p j;
      seat = seat;
      count = c j;
      event = (unwrap_or (slice_get es i) d).event;
      reply = (unwrap_or (slice_get es i) d).reply;
    }))

pub item_length : (x : ReceiptItem) → length (receipts_of x) ≡ count_in x
item_length (item.One r) = refl
item_length (item.Steps s) = steps_count s.place s.seat s.count s.steps.turn s.steps.harts s.steps.count
item_length (item.Rounds r) =
    from_count r.place r.seat r.count (rounds_of r.rounds)
    ∙ rounds_length r.rounds.turn r.rounds.harts r.rounds.steps r.rounds.drain r.rounds.count

pub item_at : (x : ReceiptItem) (i : ℕ) → i < count_in x → slice_get (receipts_of x) i ≡ Some (receipt_at x i)
item_at (item.One r) zero less = refl
item_at (item.One r) (suc i) less = absurd (omega (arith, less))
item_at (item.Steps s) i less = steps_at i s.place s.seat s.count s.steps.turn s.steps.harts s.steps.count less
item_at (item.Rounds r) i less =
    let long = rounds_length r.rounds.turn r.rounds.harts r.rounds.steps r.rounds.drain r.rounds.count in
    from_at i r.place r.seat r.count (rounds_of r.rounds) (dry_entry 0) (omega (arith, long, less))

-- the places and counts of an item's receipts rise by one
pub at_place : (x : ReceiptItem) (i : ℕ) → i < count_in x → (receipt_at x i).place ≡ place_of x + i
at_place (item.One r) i less = omega (arith, less)
at_place (item.Steps s) i less = refl
at_place (item.Rounds r) i less = refl

pub at_count : (x : ReceiptItem) (i : ℕ) → i < count_in x → (receipt_at x i).count ≡ calls_before x + i
at_count (item.One r) i less = omega (arith, less)
at_count (item.Steps s) i less = refl
at_count (item.Rounds r) i less = refl

pub at_seat : (x : ReceiptItem) (i : ℕ) → (receipt_at x i).seat ≡ seat_in x
at_seat (item.One r) i = refl
at_seat (item.Steps s) i = refl
at_seat (item.Rounds r) i = refl
