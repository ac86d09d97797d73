-- Rows of 64 bits, and the flags that they stand for.
use Rattle.std.proofs.Common.{◌≡◌, ℕ, ◌+◌, ◌/◌, ◌%◌, ◌^◌, ◌<◌, ◌≤◌, List, Bool, false, length, get_or, set, drop, sym, ap, ◌∙◌, arith, inl, inr}
use Rattle.std.proofs.lemmas.Bool.{cases_eq, cases_lt}
use Rattle.std.proofs.lemmas.List.{same_lists, length-set, get_or-set_same, get_or-set_other, get_or_default, get_or_past, get_or-take, get_or-drop, length-take}
use Rattle.std.proofs.lemmas.List.FromFn.{length-map-range_with_len, get_or-map-range_with_len}
use Rattle.std.proofs.lemmas.Nat.Bits.{bit_at-lt, same_from_bits_below}
use Rattle.std.specs.Int.{bit_at}
use Rattle.rvm_mem.specs.Pages.{bit, bits, window}
use Rattle.rvm_mem.specs.Rows.{flag, flags, AreRows}
use Rattle.rvm_mem.proofs.Bits.{bits_fit, bit_of_bits, bit_number, as_number}

pub length-flags : (n : ℕ) (rows : List ℕ) → length (flags n rows) ≡ n
unfolding flags
length-flags n rows = length-map-range_with_len (flag rows) 0 n

pub get-flags : (n : ℕ) (rows : List ℕ) (k : ℕ) (d : Bool) → k < n → get_or (flags n rows) k d ≡ flag rows k
unfolding flags
get-flags n rows k d inside = get_or-map-range_with_len (flag rows) 0 n k k d inside (omega arith)

-- a list is the flags of rows if it has their bits
pub are_flags : (n : ℕ) (rows : List ℕ) (pages : List Bool) → length pages ≡ n → ((k : ℕ) → k < n → flag rows k ≡ get_or pages k false) → flags n rows ≡ pages
are_flags n rows pages size same =
    same_lists (flags n rows) pages (length-flags n rows ∙ sym size)
    (λ k d below.
    let inside : k < n = omega (arith, length-flags n rows) in
    get-flags n rows k d inside ∙ same k inside ∙ get_or_default pages k false d (omega arith))

-- a bit is the flag, also past the last page
pub flag_is : (n : ℕ) (rows : List ℕ) → AreRows n rows → (k : ℕ) → flag rows k ≡ get_or (flags n rows) k false
flag_is n rows are k =
    elim (cases_lt k n) [
      | inl inside ↦ sym (get-flags n rows k false inside)
      | inr past ↦ are.past k past ∙ sym (get_or_past (flags n rows) k false (omega (arith, length-flags n rows)))
    ]

-- a number is that of the 64 flags that are its bits
pub window_is : (pages : List Bool) (p word : ℕ) → word < 2 ^ 64 → ((i : ℕ) → i < 64 → bit i word ≡ get_or pages (p + i) false) → word ≡ bits (window p pages)
window_is pages p word small same =
    let few : length (window p pages) ≤ 64 = omega (arith, length-take 64 (drop p pages)) in
    same_from_bits_below 64 word (bits (window p pages)) small (bits_fit (window p pages) 64 few)
    (λ i below.
    bit_number (bit_at word i) (bit_at-lt word i)
    ∙ ap as_number (same i below ∙ sym (get_or-drop p pages i false) ∙ sym (get_or-take 64 (drop p pages) i false below))
    ∙ sym (bit_of_bits (window p pages) i))

-- a row as a number
pub row_is : (n : ℕ) (rows : List ℕ) → AreRows n rows → (p : ℕ) → p % 64 ≡ 0 → get_or rows (p / 64) 0 < 2 ^ 64 → get_or rows (p / 64) 0 ≡ bits (window p (flags n rows))
unfolding flag
row_is n rows are p aligned small =
    window_is (flags n rows) p (get_or rows (p / 64) 0) small
    (λ i below.
    ap (λ j. bit j (get_or rows (p / 64) 0)) (let place : i ≡ (p + i) % 64 = omega arith in place)
    ∙ ap (λ r. bit ((p + i) % 64) (get_or rows r 0)) (let row : p / 64 ≡ (p + i) / 64 = omega arith in row)
    ∙ flag_is n rows are (p + i))

-- the first i rows are those of a function
pub record RowsTo (i : ℕ) (row_of : ℕ → ℕ) (old new : List ℕ) : Type 0 where
  pub size : length new ≡ length old
  pub are : (r : ℕ) → r < i → get_or new r 0 ≡ row_of r

pub one_row_more : (row_of : ℕ → ℕ) (old new : List ℕ) (i row : ℕ) → RowsTo i row_of old new → i < length new → row ≡ row_of i → RowsTo (i + 1) row_of old (set new i row)
one_row_more row_of old new i row so_far inside is =
    record {
      size = length-set new i row ∙ so_far.size;
      are = λ r below.
          elim (cases_eq r i) [
            | inl e ↦ ap (λ k. get_or (set new i row) k 0) e ∙ get_or-set_same new i row 0 inside ∙ is ∙ ap row_of (sym e)
            | inr other ↦ get_or-set_other new i r row 0 other ∙ so_far.are r (omega arith)
          ];
    }
