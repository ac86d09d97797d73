-- How far receipts agree with the entries that are left of a journal.
use Rattle.std.specs.Prelude.{◌≡◌, ◌⊎◌, ℕ, ◌+◌, ◌<◌, ◌≤◌, List, [], ◌∷◌, length, drop, slice_get, unwrap_or, Option, Some, None}
use Rattle.rvm_recorder.specs.declared.items.ReceiptItem.{ReceiptItem}
use Rattle.rvm_recorder.specs.declared.items.ReceiptItem.TheVariants as item
use Rattle.rvm_recorder.specs.Receipts.{PlainReceipt}
use Rattle.rvm_recorder.specs.Runs.{count_in, place_of, step_receipt}
use Rattle.rvm_hart.specs.declared.outcome.Stepped.TheVariants.{Retired}
use Rattle.rvm_recorder.specs.declared.rounds.Rounds.{Rounds}
use Rattle.rvm_recorder.specs.Entries.{PlainEntry}
use Rattle.rvm_recorder.specs.Items.{dry_entry, rounds_of}
use Rattle.rvm_message.specs.declared.step.StepReply.TheVariants.{Stepped}

-- the entry of rounds with this index
abbrev pub entry_in : Rounds → ℕ → PlainEntry
entry_in r i = unwrap_or (slice_get (rounds_of r) i) (dry_entry 0)

-- the receipt of an item with this index
abbrev pub receipt_at : ReceiptItem → ℕ → PlainReceipt
receipt_at (item.One r) i = r
receipt_at (item.Steps s) i =
    step_receipt (s.place + i) s.seat (s.count + i) (s.steps.turn + i) s.steps.harts (Stepped Retired)
receipt_at (item.Rounds r) i =
    record { place = r.place + i; seat = r.seat; count = r.count + i; event = (entry_in r.rounds i).event; reply = (entry_in r.rounds i).reply }

-- a receipt has the event and the reply of an entry
abbrev pub IsOf : PlainReceipt → PlainEntry → Type 0
IsOf r e = (r.event ≡ e.event) × (r.reply ≡ e.reply)

-- there is a next entry, and the next receipt is not of it
pub record Differs (x : ReceiptItem) (left : List PlainEntry) (c : ℕ) : Type 0 where
  pub entry : PlainEntry
  pub at : slice_get left c ≡ Some entry
  pub differ : IsOf (receipt_at x c) entry → ⊥

-- the first c receipts of an item are of the first c entries that are left, and none of their places is that of the
-- next item; if the item has more receipts, the next one's place is, or no entry is left, or the receipt is not of it
pub record Tells (x : ReceiptItem) (old new : List PlainEntry) (until : Option ℕ) (c : ℕ) : Type 0 where
  pub few : c ≤ count_in x
  pub there : c ≤ length old
  pub told : (i : ℕ) (e : PlainEntry) → i < c → slice_get old i ≡ Some e → IsOf (receipt_at x i) e
  pub free : (i : ℕ) → i < c → until ≡ Some (place_of x + i) → ⊥
  pub left : c ≡ count_in x → new ≡ drop c old
  pub stopped : c < count_in x
      → (until ≡ Some (place_of x + c)) ⊎ ((length old ≡ c) ⊎ Differs x old c)

-- the place of the first of items, if there is one
abbrev pub first_place : List ReceiptItem → Option ℕ
first_place [] = None
first_place (x ∷ items) = Some (place_of x)

-- no item begins at a place below this one
abbrev pub AreFrom : ℕ → List ReceiptItem → Type 0
AreFrom p [] = Unit {0}
AreFrom p (x ∷ items) = (p ≤ place_of x) × AreFrom p items

-- the places of the first receipts of items do not fall
abbrev pub AreRising : List ReceiptItem → Type 0
AreRising [] = Unit {0}
AreRising (x ∷ items) = AreFrom (place_of x) items × AreRising items

-- the n receipts of an item from an index on are of the first n entries that are left, and none of their places is that
-- of the next item
pub record Skips (x : ReceiptItem) (index : ℕ) (old new : List PlainEntry) (until : Option ℕ) (n : ℕ) : Type 0 where
  pub few : index + n ≤ count_in x
  pub there : n ≤ length old
  pub left : new ≡ drop n old
  pub told : (i : ℕ) (e : PlainEntry) → i < n → slice_get old i ≡ Some e → IsOf (receipt_at x (index + i)) e
  pub free : (i : ℕ) → i < n → until ≡ Some (place_of x + (index + i)) → ⊥
