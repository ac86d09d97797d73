-- Receipts of steps and of rounds, as they are kept.
use Rattle.std.specs.Prelude.{ℕ, zero, suc, ◌+◌, ◌*◌, List, [], ◌∷◌, ◌++◌, Option, Some, None}
use Rattle.rvm_hart.specs.declared.outcome.Stepped.TheVariants.{Retired}
use Rattle.rvm_recorder.specs.declared.items.ReceiptItem.{ReceiptItem}
use Rattle.rvm_recorder.specs.declared.items.ReceiptItem.TheVariants as item
use Rattle.rvm_recorder.specs.Receipts.{PlainReceipt}
use Rattle.rvm_recorder.specs.declared.run.StepRun.{StepRun}
use Rattle.rvm_recorder.specs.Entries.{PlainEntry}
use Rattle.rvm_recorder.specs.Items.{rounds_of}
use Rattle.rvm_recorder.specs.Slices.{step_of}
use Rattle.rvm_message.specs.declared.step.StepReply.TheVariants.{Stepped}
use Rattle.rvm_message.specs.declared.step.StepReply.{StepReply}
use Rattle.rvm_message.specs.Steps.{reply_to_step}

-- the receipt of a step of the hart whose turn it is
abbrev pub step_receipt : (place seat count turn harts : ℕ) → StepReply → PlainReceipt
step_receipt place seat count turn harts r =
    record { place = place; seat = seat; count = count; event = step_of turn harts; reply = reply_to_step r }

-- the receipts of n steps of this many harts in turn, each of which retired an instruction
unfoldable pub steps_receipts : (place seat count turn harts n : ℕ) → List PlainReceipt
steps_receipts place seat count turn harts zero = []
steps_receipts place seat count turn harts (suc n) =
    step_receipt place seat count turn harts (Stepped Retired)
    ∷ steps_receipts (place + 1) seat (count + 1) (turn + 1) harts n

-- the receipt of a step after others, if one was made
abbrev pub last_receipt : (place seat count turn harts : ℕ) → Option StepReply → List PlainReceipt
last_receipt place seat count turn harts None = []
last_receipt place seat count turn harts (Some r) = step_receipt place seat count turn harts r ∷ []

-- the receipts of a run
abbrev pub run_receipts : (place seat count turn harts : ℕ) → StepRun → List PlainReceipt
run_receipts place seat count turn harts run =
    steps_receipts place seat count turn harts run.retired
    ++ last_receipt (place + run.retired) seat (count + run.retired) (turn + run.retired) harts run.last

-- the receipts of consecutive entries
abbrev pub receipts_from : (place seat count : ℕ) → List PlainEntry → List PlainReceipt
receipts_from place seat count [] = []
receipts_from place seat count (e ∷ es) =
    record { place = place; seat = seat; count = count; event = e.event; reply = e.reply }
    ∷ receipts_from (place + 1) seat (count + 1) es

-- the receipts that are kept in this way
abbrev pub receipts_of : ReceiptItem → List PlainReceipt
receipts_of (item.One r) = r ∷ []
receipts_of (item.Steps s) = steps_receipts s.place s.seat s.count s.steps.turn s.steps.harts s.steps.count
receipts_of (item.Rounds r) = receipts_from r.place r.seat r.count (rounds_of r.rounds)

-- the receipts of consecutive items
abbrev pub all_of : List ReceiptItem → List PlainReceipt
all_of [] = []
all_of (x ∷ items) = receipts_of x ++ all_of items

-- the place of the first receipt
abbrev pub place_of : ReceiptItem → ℕ
place_of (item.One r) = r.place
place_of (item.Steps s) = s.place
place_of (item.Rounds r) = r.place

-- the seat that called
abbrev pub seat_in : ReceiptItem → ℕ
seat_in (item.One r) = r.seat
seat_in (item.Steps s) = s.seat
seat_in (item.Rounds r) = r.seat

-- how many calls the seat had made before the first receipt
abbrev pub calls_before : ReceiptItem → ℕ
calls_before (item.One r) = r.count
calls_before (item.Steps s) = s.count
calls_before (item.Rounds r) = r.count

-- how many receipts an item has
abbrev pub count_in : ReceiptItem → ℕ
count_in (item.One r) = 1
count_in (item.Steps s) = s.steps.count
count_in (item.Rounds r) = r.rounds.count * (r.rounds.steps + 1)
