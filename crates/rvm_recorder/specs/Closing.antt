-- What holds of a host that was closed, and why one was not closed.
use Rattle.std.specs.Prelude.{◌≡◌, ◌≢◌, ℕ, List, length, sum_by, IsPermutation, ◌⊎◌}
use Rattle.rvm_recorder.specs.Seats.{PlainSeat}
use Rattle.rvm_recorder.specs.Close.{IsFirstFault, IsJournal}
use Rattle.rvm_recorder.specs.Entries.{PlainEntry}
use Rattle.rvm_recorder.specs.Receipts.{PlainReceipt}
use Rattle.rvm_recorder.specs.declared.closing.CloseKind.{CloseKind}
use Rattle.rvm_recorder.specs.declared.closing.CloseKind.TheVariants.{OutOfMemory, Mismatch}
use Rattle.rvm_refusal.specs.declared.refusal.Refusal.{Refusal}
use Rattle.rvm_refusal.specs.declared.refusal.Refusal.TheVariants as refusal

-- the receipts, in the order of their places, are the journal, and the seats' counts add up to it
pub record IsClosed (entries : List PlainEntry) (seats : List PlainSeat) (receipts : List PlainReceipt) : Type 0 where
  pub ordered : List PlainReceipt
  pub same : IsPermutation receipts ordered
  pub journal : IsJournal entries ordered
  pub counts : sum_by (λ s. s.count) seats ≡ length entries

-- the fault that is stated is true: it is the first fault of the receipts, or these are right and a seat is missing
abbrev pub IsCloseError : CloseKind → List PlainEntry → ℕ → ℕ → List PlainReceipt → Type 0
IsCloseError OutOfMemory entries want have receipts = Unit {0}
IsCloseError (Mismatch place) entries want have receipts =
    IsFirstFault entries receipts place ⊎ ((place ≡ length entries) × IsJournal entries receipts × (have ≢ want))

-- the number of each refusal
abbrev pub close_refusal : CloseKind → Refusal
close_refusal OutOfMemory = refusal.OutOfMemory
close_refusal (Mismatch place) = refusal.Mismatch
