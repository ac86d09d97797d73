-- Rows of no page and of every page.
use Rattle.std.proofs.Common.{◌≡◌, ℕ, ◌+◌, ◌-◌, ◌*◌, ◌/◌, ◌%◌, ◌^◌, ◌<◌, ◌≤◌, List, true, false, ◌==◌, length, get_or, min, replicate, sym, ap, ◌∙◌, arith, inl, inr}
use Rattle.std.proofs.lemmas.Bool.{cases_lt}
use Rattle.std.proofs.lemmas.List.{get_or_past, get_or-replicate, length-replicate}
use Rattle.std.proofs.lemmas.Nat.Bits.{bit_at-zero, bit_at_ones, bit_at_ones_above}
use Rattle.rvm_mem.specs.Pages.{bit, count}
use Rattle.rvm_mem.specs.Rows.{flag, flags, AreRows, AreCounted}
use Rattle.rvm_mem.proofs.Sets.{count_none, count_all}
use Rattle.rvm_mem.proofs.Rows.{are_flags}

zero_row : (size r : ℕ) → get_or {A = ℕ} (replicate size 0) r 0 ≡ 0
zero_row size r =
    let zeros : List ℕ = replicate size 0 in
    let size_is : length zeros ≡ size = length-replicate size 0 in
    elim (cases_lt r size) [
      | inl inside ↦ get_or-replicate size r 0 0 inside
      | inr past ↦ get_or_past zeros r 0 (omega (arith, size_is))
    ]

pub rows_of_zeros : (n size : ℕ) → size ≡ (n + 63) / 64 → n ≤ 4096 → AreRows n (replicate size 0)
unfolding flag
rows_of_zeros n size enough few =
    record {
      size = length-replicate size 0 ∙ enough;
      past = λ k out. ap (bit (k % 64)) (zero_row size (k / 64)) ∙ ap (λ b. b == 1) (bit_at-zero (k % 64));
      few = few;
    }

pub flags_of_zeros : (n size : ℕ) → flags n (replicate size 0) ≡ replicate n false
unfolding flag
flags_of_zeros n size =
    are_flags n (replicate size 0) (replicate n false) (length-replicate n false)
    (λ k below. ap (bit (k % 64)) (zero_row size (k / 64)) ∙ ap (λ b. b == 1) (bit_at-zero (k % 64)) ∙ sym (get_or-replicate n k false false below))

pub zeros_counted : (n size : ℕ) → size ≡ (n + 63) / 64 → n ≤ 4096 → AreCounted n 0 (replicate size 0)
zeros_counted n size enough few =
    record { are = rows_of_zeros n size enough few; counted = sym (ap count (flags_of_zeros n size) ∙ count_none n) }

-- the row of every page that it has
abbrev pub full_row : (n r : ℕ) → ℕ
full_row n r = 2 ^ min (n - 64 * r) 64 - 1

abbrev pub AreFull : (n : ℕ) → List ℕ → Type 0
AreFull n rows = (r : ℕ) → r < length rows → get_or rows r 0 ≡ full_row n r

pub full_flag : (n : ℕ) (rows : List ℕ) → length rows ≡ (n + 63) / 64 → AreFull n rows → (k : ℕ) → k < n → flag rows k ≡ true
unfolding flag
full_flag n rows size full k inside =
    ap (bit (k % 64)) (full (k / 64) (omega arith)) ∙ ap (λ b. b == 1) (bit_at_ones (min (n - 64 * (k / 64)) 64) (k % 64) (omega arith))

pub rows_are_full : (n : ℕ) (rows : List ℕ) → length rows ≡ (n + 63) / 64 → n ≤ 4096 → AreFull n rows → AreRows n rows
unfolding flag
rows_are_full n rows size few full =
    record {
      size = size;
      past = λ k out.
          elim (cases_lt (k / 64) (length rows)) [
            | inl inside ↦ ap (bit (k % 64)) (full (k / 64) inside) ∙ ap (λ b. b == 1) (bit_at_ones_above (min (n - 64 * (k / 64)) 64) (k % 64) (omega arith))
            | inr past ↦ ap (bit (k % 64)) (get_or_past rows (k / 64) 0 past) ∙ ap (λ b. b == 1) (bit_at-zero (k % 64))
          ];
      few = few;
    }

pub full_flags : (n : ℕ) (rows : List ℕ) → length rows ≡ (n + 63) / 64 → AreFull n rows → flags n rows ≡ replicate n true
full_flags n rows size full =
    are_flags n rows (replicate n true) (length-replicate n true) (λ k below. full_flag n rows size full k below ∙ sym (get_or-replicate n k true false below))

pub full_counted : (n : ℕ) (rows : List ℕ) → length rows ≡ (n + 63) / 64 → n ≤ 4096 → AreFull n rows → AreCounted n n rows
full_counted n rows size few full =
    record { are = rows_are_full n rows size few full; counted = sym (ap count (full_flags n rows size full) ∙ count_all n) }
