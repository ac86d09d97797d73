-- What the receipts of a shared host must say of its journal.
use Rattle.std.specs.Prelude.{◌≡◌, ℕ, ◌<◌, ◌≤◌, List, length, slice_get, Some, ◌⊎◌}
use Rattle.rvm_recorder.specs.Entries.{PlainEntry}
use Rattle.rvm_recorder.specs.Receipts.{PlainReceipt}

-- this place has exactly one receipt, with the event and the reply of its entry, made after the same seat's receipts of
-- lower places
pub record IsRightAt (entries : List PlainEntry) (receipts : List PlainReceipt) (place : ℕ) : Type 0 where
  pub index : ℕ
  pub receipt : PlainReceipt
  pub entry : PlainEntry
  pub stands : slice_get receipts index ≡ Some receipt
  pub at : receipt.place ≡ place
  pub one : (j : ℕ) (s : PlainReceipt) → slice_get receipts j ≡ Some s → s.place ≡ place → j ≡ index
  pub kept : slice_get entries place ≡ Some entry
  pub event : receipt.event ≡ entry.event
  pub reply : receipt.reply ≡ entry.reply
  pub rises : (j : ℕ) (s : PlainReceipt) → slice_get receipts j ≡ Some s → s.place < place → s.seat ≡ receipt.seat
      → s.count < receipt.count

-- some receipt is of a place past the end of the journal
pub record IsPast (entries : List PlainEntry) (receipts : List PlainReceipt) : Type 0 where
  pub index : ℕ
  pub receipt : PlainReceipt
  pub stands : slice_get receipts index ≡ Some receipt
  pub past : length entries ≤ receipt.place

-- the first fault of the receipts is at this place: all places below are right, and this place is not, or is the end
-- and some receipt is past it
abbrev pub IsFirstFault : List PlainEntry → List PlainReceipt → ℕ → Type 0
IsFirstFault entries receipts place =
    ((k : ℕ) → k < place → IsRightAt entries receipts k)
    × (((place < length entries) × (IsRightAt entries receipts place → ⊥))
    ⊎ ((place ≡ length entries) × IsPast entries receipts))

-- the receipts, in the order of their places, have the events and replies of the journal's entries, and the counts of
-- each seat rise
pub record IsJournal (entries : List PlainEntry) (receipts : List PlainReceipt) : Type 0 where
  pub len : length receipts ≡ length entries
  pub place : (k : ℕ) (r : PlainReceipt) → slice_get receipts k ≡ Some r → r.place ≡ k
  pub event : (k : ℕ) (r : PlainReceipt) (e : PlainEntry) → slice_get receipts k ≡ Some r
      → slice_get entries k ≡ Some e → r.event ≡ e.event
  pub reply : (k : ℕ) (r : PlainReceipt) (e : PlainEntry) → slice_get receipts k ≡ Some r
      → slice_get entries k ≡ Some e → r.reply ≡ e.reply
  pub rises : (j k : ℕ) (s r : PlainReceipt) → j < k → slice_get receipts j ≡ Some s
      → slice_get receipts k ≡ Some r → s.seat ≡ r.seat → s.count < r.count
