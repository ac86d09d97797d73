-- Rows that are made of flags.
use Rattle.std.proofs.Common.{◌≡◌, ℕ, ◌+◌, ◌*◌, ◌/◌, ◌%◌, ◌<◌, ◌≤◌, List, Bool, false, length, get_or, sym, ap, ◌∙◌, arith, inl, inr}
use Rattle.std.proofs.lemmas.Bool.{cases_lt}
use Rattle.std.proofs.lemmas.List.{get_or_past}
use Rattle.rvm_mem.specs.Pages.{bit, bits, window}
use Rattle.rvm_mem.specs.Rows.{flag, flags, AreRows}
use Rattle.rvm_mem.proofs.Bits.{bit_of_window}
use Rattle.rvm_mem.proofs.Rows.{are_flags, RowsTo}
use Rattle.rvm_mem.proofs.Lowest.{flag_of_zero}

-- the row of the flags of its pages
abbrev pub row_of : List Bool → ℕ → ℕ
row_of pages r = bits (window (64 * r) pages)

taken_flag : (pages : List Bool) (rows : List ℕ) → length rows ≡ (length pages + 63) / 64 → ((r : ℕ) → r < length rows → get_or rows r 0 ≡ row_of pages r) → (k : ℕ) → flag rows k ≡ get_or pages k false
unfolding flag
taken_flag pages rows size taken k =
    elim (cases_lt (k / 64) (length rows)) [
      | inl inside ↦
          ap (bit (k % 64)) (taken (k / 64) inside) ∙ bit_of_window pages (64 * (k / 64)) (k % 64) (omega arith)
          ∙ ap (λ j. get_or pages j false) (let e : 64 * (k / 64) + k % 64 ≡ k = omega arith in e)
      | inr past ↦ flag_of_zero rows k (get_or_past rows (k / 64) 0 past) ∙ sym (get_or_past pages k false (omega arith))
    ]

-- rows that stand for these flags
pub record Taken (pages : List Bool) (n : ℕ) (rows : List ℕ) : Type 0 where
  pub are : AreRows n rows
  pub is : flags n rows ≡ pages

pub all_taken : (pages : List Bool) (n i : ℕ) (old new : List ℕ) → length pages ≡ n → AreRows n old → RowsTo i (row_of pages) old new → length old ≤ i → Taken pages n new
all_taken pages n i old new same are made all =
    let size : length new ≡ (length pages + 63) / 64 = omega (arith, made.size, are.size) in
    let flag_is : (k : ℕ) → flag new k ≡ get_or pages k false = taken_flag pages new size (λ r inside. made.are r (omega (arith, made.size))) in
    record {
      are = record { size = omega arith; past = λ k out. flag_is k ∙ get_or_past pages k false (omega arith); few = are.few };
      is = are_flags n new pages same (λ k below. flag_is k);
    }
