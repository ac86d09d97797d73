-- A seat, as contracts see it, and why a host was not shared.
use Rattle.std.specs.Prelude.{ℕ}
use Rattle.rvm_recorder.specs.declared.shared.ShareError.{ShareError}
use Rattle.rvm_recorder.specs.declared.shared.ShareError.TheVariants.{BadSize, OutOfMemory}
use Rattle.rvm_refusal.specs.declared.refusal.Refusal.{Refusal}
use Rattle.rvm_refusal.specs.declared.refusal.Refusal.TheVariants as refusal

-- a seat: its number, and how many calls it has made
pub record PlainSeat : Type 0 where
  pub id : ℕ
  pub count : ℕ

-- the seat with this number, which has made this many calls
abbrev pub seat_of : (id count : ℕ) → PlainSeat
seat_of id count = record { id = id; count = count }

-- the number of each refusal
abbrev pub share_refusal : ShareError → Refusal
share_refusal BadSize = refusal.BadSize
share_refusal OutOfMemory = refusal.OutOfMemory
