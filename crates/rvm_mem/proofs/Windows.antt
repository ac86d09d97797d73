-- The flags of 64 pages that stand in two rows.
use Rattle.std.proofs.Common.{◌≡◌, ℕ, ◌+◌, ◌-◌, ◌*◌, ◌/◌, ◌%◌, ◌^◌, ◌<◌, ◌≤◌, List, ◌==◌, get_or, max, sym, ap, ◌∙◌, arith, inl, inr, bit_or}
use Rattle.std.proofs.lemmas.Bool.{cases_lt}
use Rattle.std.proofs.lemmas.Nat.{pow_pos, shr-shr, or_lt}
use Rattle.std.proofs.lemmas.Nat.Bits.{bit_at-zero, bit_at_or, bit_at_above, bit_at_cat_low, bit_at_cat_high}
use Rattle.std.specs.Int.{bit_at}
use Rattle.rvm_mem.specs.Pages.{bit, bits, window}
use Rattle.rvm_mem.specs.Rows.{flag, flags, AreRows}
use Rattle.rvm_mem.proofs.Rows.{flag_is, window_is}

-- the bits of a number shifted down, and up
bit_at_shr : (n s i : ℕ) → bit_at (n / 2 ^ s) i ≡ bit_at n (s + i)
bit_at_shr n s i = ap (λ x. x % 2) (shr-shr n s i)

bit_at_fits : (n i : ℕ) → i < 64 → bit_at (n % 2 ^ 64) i ≡ bit_at n i
bit_at_fits n i below =
    sym (bit_at_cat_low (n / 2 ^ 64) 64 (n % 2 ^ 64) i below)
    ∙ ap (λ x. bit_at x i) (let e : n / 2 ^ 64 * 2 ^ 64 + n % 2 ^ 64 ≡ n = omega arith in e)

bit_at_shl_low : (n s i : ℕ) → i < 64 → i < s → bit_at (n * 2 ^ s % 2 ^ 64) i ≡ 0
bit_at_shl_low n s i below low =
    bit_at_fits (n * 2 ^ s) i below ∙ ap (λ x. bit_at x i) (let e : n * 2 ^ s ≡ n * 2 ^ s + 0 = omega arith in e)
    ∙ bit_at_cat_low n s 0 i low ∙ bit_at-zero i

bit_at_shl_high : (n s i : ℕ) → i < 64 → s ≤ i → bit_at (n * 2 ^ s % 2 ^ 64) i ≡ bit_at n (i - s)
bit_at_shl_high n s i below high =
    bit_at_fits (n * 2 ^ s) i below ∙ ap (λ x. bit_at x i) (let e : n * 2 ^ s ≡ n * 2 ^ s + 0 = omega arith in e)
    ∙ bit_at_cat_high n s 0 i (pow_pos s) high

-- the upper part of a row, and the lower part of the next
abbrev pub parts : (s row next : ℕ) → ℕ
parts s row next = bit_or (row / 2 ^ s) (next * 2 ^ (64 - s) % 2 ^ 64)

low_part : (s row next i : ℕ) → s < 64 → i < 64 - s → bit_at (parts s row next) i ≡ bit_at row (s + i)
low_part s row next i less low =
    bit_at_or (row / 2 ^ s) (next * 2 ^ (64 - s) % 2 ^ 64) i
    ∙ ap (max (bit_at (row / 2 ^ s) i)) (bit_at_shl_low next (64 - s) i (omega arith) low)
    ∙ (let e : max (bit_at (row / 2 ^ s) i) 0 ≡ bit_at (row / 2 ^ s) i = omega arith in e) ∙ bit_at_shr row s i

high_part : (s row next i : ℕ) → row < 2 ^ 64 → 64 - s ≤ i → i < 64 → bit_at (parts s row next) i ≡ bit_at next (i - (64 - s))
high_part s row next i small high below =
    bit_at_or (row / 2 ^ s) (next * 2 ^ (64 - s) % 2 ^ 64) i
    ∙ ap (λ b. max b (bit_at (next * 2 ^ (64 - s) % 2 ^ 64) i)) (bit_at_shr row s i ∙ bit_at_above row 64 (s + i) small (omega arith))
    ∙ (let e : max 0 (bit_at (next * 2 ^ (64 - s) % 2 ^ 64) i) ≡ bit_at (next * 2 ^ (64 - s) % 2 ^ 64) i = omega arith in e)
    ∙ bit_at_shl_high next (64 - s) i below high

pub two_rows : (n : ℕ) (rows : List ℕ) → AreRows n rows → (p row next : ℕ) → row ≡ get_or rows (p / 64) 0 → next ≡ get_or rows (p / 64 + 1) 0 → row < 2 ^ 64 → parts (p % 64) row next ≡ bits (window p (flags n rows))
unfolding flag
two_rows n rows are p row next row_is next_is small =
    window_is (flags n rows) p (parts (p % 64) row next)
    (or_lt 64 (row / 2 ^ (p % 64)) (next * 2 ^ (64 - p % 64) % 2 ^ 64) (omega arith) (omega arith))
    (λ i below.
    elim (cases_lt i (64 - p % 64)) [
      | inl low ↦
          ap (λ b. b == 1) (low_part (p % 64) row next i (omega arith) low)
          ∙ ap (λ j. bit j row) (let e : p % 64 + i ≡ (p + i) % 64 = omega arith in e)
          ∙ ap (bit ((p + i) % 64)) (row_is ∙ ap (λ r. get_or rows r 0) (let e : p / 64 ≡ (p + i) / 64 = omega arith in e))
          ∙ flag_is n rows are (p + i)
      | inr high ↦
          ap (λ b. b == 1) (high_part (p % 64) row next i small high below)
          ∙ ap (λ j. bit j next) (let e : i - (64 - p % 64) ≡ (p + i) % 64 = omega arith in e)
          ∙ ap (bit ((p + i) % 64)) (next_is ∙ ap (λ r. get_or rows r 0) (let e : p / 64 + 1 ≡ (p + i) / 64 = omega arith in e))
          ∙ flag_is n rows are (p + i)
    ])
