-- The lowest page of a set, and of one row of it without the bits of another.
use Rattle.std.proofs.Common.{◌≡◌, ℕ, zero, suc, ◌+◌, ◌-◌, ◌*◌, ◌/◌, ◌%◌, ◌^◌, ◌<◌, ◌≤◌, List, Bool, true, false, ◌==◌, length, get_or, min, refl, sym, ap, ◌∙◌, arith, inl, inr, bit_and, Some, None, not, ◌&&◌}
use Rattle.std.proofs.lemmas.Bool.{cases_lt}
use Rattle.std.proofs.lemmas.List.{get_or_past}
use Rattle.std.proofs.lemmas.Nat.Bits.{bit_at-zero, bit_at-lt, bit_at_and, bit_at_not, bit_at_mask_inside, bit_at_mask_below, ones_shl, bit_at-trailing_zeros}
use Rattle.std.proofs.lemmas.Nat.{and_le_l}
use Rattle.std.specs.Int.{bit_at, trailing_zeros}
use mir.Syntax.{w64}
use Rattle.rvm_mem.specs.Pages.{bit, first, has_except, IsLowest}
use Rattle.rvm_mem.specs.Rows.{flag, flags, AreRows}
use Rattle.rvm_mem.proofs.Sets.{first_is, first_none}
use Rattle.rvm_mem.proofs.Rows.{length-flags, get-flags, flag_is}

-- a row of zeros has no page
pub flag_of_zero : (rows : List ℕ) (k : ℕ) → get_or rows (k / 64) 0 ≡ 0 → flag rows k ≡ false
unfolding flag
flag_of_zero rows k none = ap (bit (k % 64)) none ∙ ap (λ b. b == 1) (bit_at-zero (k % 64))

pub first_in_row : (n : ℕ) (rows : List ℕ) (r : ℕ) → AreRows n rows → r < length rows → ((i : ℕ) → i < r → get_or rows i 0 ≡ 0) → 0 < get_or rows r 0 → get_or rows r 0 < 2 ^ 64 → Some (64 * r + trailing_zeros w64 (get_or rows r 0)) ≡ first (flags n rows)
unfolding flag
first_in_row n rows r are inside none some small =
    let row : ℕ = get_or rows r 0 in
    let place : ℕ = trailing_zeros w64 row in
    let low : (place < 64) × (bit_at row place ≡ 1) × ((i : ℕ) → i < place → bit_at row i ≡ 0) = bit_at-trailing_zeros w64 row some small in
    let in_row : place < 64 = low.0 in
    let at : (64 * r + place) / 64 ≡ r = omega arith in
    let off : (64 * r + place) % 64 ≡ place = omega arith in
    let here : flag rows (64 * r + place) ≡ true =
    ap (λ i. bit i (get_or rows ((64 * r + place) / 64) 0)) off ∙ ap (λ i. bit place (get_or rows i 0)) at ∙ ap (λ b. b == 1) low.1 in
    let below : 64 * r + place < n =
    elim (cases_lt (64 * r + place) n) [
      | inl is ↦ is
      | inr past ↦ let out : flag rows (64 * r + place) ≡ false = are.past (64 * r + place) past in let never : true ≡ false = sym here ∙ out in cc
    ] in
    first_is (flags n rows) (64 * r + place) (omega (arith, length-flags n rows)) (get-flags n rows (64 * r + place) false below ∙ here)
    (λ k less.
    get-flags n rows k false (omega arith)
    ∙ elim (cases_lt k (64 * r)) [
      | inl early ↦ flag_of_zero rows k (none (k / 64) (omega arith))
      | inr late ↦
          let k_at : k / 64 ≡ r = omega arith in
          let k_off : k % 64 < place = omega arith in
          ap (λ i. bit (k % 64) (get_or rows i 0)) k_at ∙ ap (λ b. b == 1) (low.2 (k % 64) k_off)
    ])

pub first_in_none : (n : ℕ) (rows : List ℕ) → AreRows n rows → ((i : ℕ) → i < length rows → get_or rows i 0 ≡ 0) → None ≡ first (flags n rows)
first_in_none n rows are none =
    first_none (flags n rows)
    (λ k.
    sym (flag_is n rows are k)
    ∙ elim (cases_lt (k / 64) (length rows)) [
      | inl inside ↦ flag_of_zero rows k (none (k / 64) inside)
      | inr past ↦ flag_of_zero rows k (get_or_past rows (k / 64) 0 past)
    ])

-- the bits of a row that another row has not, from one on
abbrev pub rest_of : (row except k : ℕ) → ℕ
rest_of row except k = bit_and (bit_and row (2 ^ 64 - 1 - except)) ((2 ^ 64 - 1) * 2 ^ k % 2 ^ 64)

pub rest_fits : (row except k : ℕ) → row < 2 ^ 64 → rest_of row except k < 2 ^ 64
rest_fits row except k small =
    omega (arith, and_le_l (bit_and row (2 ^ 64 - 1 - except)) ((2 ^ 64 - 1) * 2 ^ k % 2 ^ 64), and_le_l row (2 ^ 64 - 1 - except))

min_bits : (a b c : ℕ) → a < 2 → b < 2 → c ≡ 1 → (min (min a (1 - b)) c == 1) ≡ ((a == 1) && not (b == 1))
min_bits a b c small less one =
    ap (λ x. min (min a (1 - b)) x == 1) one ∙ cases a b small less where
      cases : (a b : ℕ) → a < 2 → b < 2 → (min (min a (1 - b)) 1 == 1) ≡ ((a == 1) && not (b == 1))
      cases zero zero small less = refl
      cases zero (suc zero) small less = refl
      cases (suc zero) zero small less = refl
      cases (suc zero) (suc zero) small less = refl
      cases (suc (suc a)) b small less = absurd (omega arith)
      cases zero (suc (suc b)) small less = absurd (omega arith)
      cases (suc zero) (suc (suc b)) small less = absurd (omega arith)

bits_of_rest : (row except k i : ℕ) → except < 2 ^ 64 → k < 64 → i < 64 → bit_at (rest_of row except k) i ≡ min (min (bit_at row i) (1 - bit_at except i)) (bit_at (2 ^ 64 - 2 ^ k) i)
bits_of_rest row except k i small place below =
    bit_at_and (bit_and row (2 ^ 64 - 1 - except)) ((2 ^ 64 - 1) * 2 ^ k % 2 ^ 64) i
    ∙ ap (λ x. min x (bit_at ((2 ^ 64 - 1) * 2 ^ k % 2 ^ 64) i)) (bit_at_and row (2 ^ 64 - 1 - except) i ∙ ap (min (bit_at row i)) (bit_at_not w64 except i small below))
    ∙ ap (λ m. min (min (bit_at row i) (1 - bit_at except i)) (bit_at m i)) (ones_shl 64 k (omega arith))

above_in_rest : (row except k i : ℕ) → except < 2 ^ 64 → k < 64 → k ≤ i → i < 64 → bit i (rest_of row except k) ≡ (bit i row && not (bit i except))
above_in_rest row except k i small place above below =
    ap (λ b. b == 1) (bits_of_rest row except k i small place below)
    ∙ min_bits (bit_at row i) (bit_at except i) (bit_at (2 ^ 64 - 2 ^ k) i) (bit_at-lt row i) (bit_at-lt except i) (bit_at_mask_inside k 64 i above below)

below_in_rest : (row except k i : ℕ) → except < 2 ^ 64 → k < 64 → i < k → bit_at (rest_of row except k) i ≡ 0
below_in_rest row except k i small place below =
    bits_of_rest row except k i small place (omega arith)
    ∙ ap (min (min (bit_at row i) (1 - bit_at except i))) (bit_at_mask_below k 64 i below)
    ∙ omega arith

in_row : (n p row k : ℕ) (rows : List ℕ) (pages : List Bool) → AreRows n rows → row ≡ get_or rows (p / 64) 0 → flags n rows ≡ pages → k / 64 ≡ p / 64 → get_or pages k false ≡ bit (k % 64) row
unfolding flag
in_row n p row k rows pages are read is same =
    ap (λ s. get_or s k false) (sym is) ∙ sym (flag_is n rows are k)
    ∙ ap (λ i. bit (k % 64) (get_or rows i 0)) same ∙ ap (bit (k % 64)) (sym read)

rest_is : (n p row except k : ℕ) (rows : List ℕ) (pages : List Bool) → AreRows n rows → row ≡ get_or rows (p / 64) 0 → flags n rows ≡ pages → except < 2 ^ 64 → p ≤ k → k < 64 * (p / 64) + 64 → has_except except pages k ≡ bit (k % 64) (rest_of row except (p % 64))
rest_is n p row except k rows pages are read is small from below =
    ap (λ here. here && not (bit (k % 64) except)) (in_row n p row k rows pages are read is (omega arith))
    ∙ sym (above_in_rest row except (p % 64) (k % 64) small (omega arith) (omega arith) (omega arith))

pub none_in_rest : (n p row except : ℕ) (rows : List ℕ) (pages : List Bool) → AreRows n rows → row ≡ get_or rows (p / 64) 0 → flags n rows ≡ pages → except < 2 ^ 64 → rest_of row except (p % 64) ≡ 0 → IsLowest (has_except except pages) p (64 * (p / 64) + 64) None
none_in_rest n p row except rows pages are read is small none =
    λ k from below.
    rest_is n p row except k rows pages are read is small from below ∙ ap (bit (k % 64)) none ∙ ap (λ b. b == 1) (bit_at-zero (k % 64))

pub some_in_rest : (n p row except : ℕ) (rows : List ℕ) (pages : List Bool) → AreRows n rows → row ≡ get_or rows (p / 64) 0 → flags n rows ≡ pages → except < 2 ^ 64 → 0 < rest_of row except (p % 64) → rest_of row except (p % 64) < 2 ^ 64 → IsLowest (has_except except pages) p (64 * (p / 64) + 64) (Some (64 * (p / 64) + trailing_zeros w64 (rest_of row except (p % 64))))
some_in_rest n p row except rows pages are read is small some fits =
    let rest : ℕ = rest_of row except (p % 64) in
    let place : ℕ = trailing_zeros w64 rest in
    let low : (place < 64) × (bit_at rest place ≡ 1) × ((i : ℕ) → i < place → bit_at rest i ≡ 0) = bit_at-trailing_zeros w64 rest some fits in
    let in_it : place < 64 = low.0 in
    let one : bit_at rest place ≡ 1 = low.1 in
    let from : p % 64 ≤ place =
    elim (cases_lt place (p % 64)) [
      | inl before ↦ let zero_bit : bit_at rest place ≡ 0 = below_in_rest row except (p % 64) place small (omega arith) before in absurd (omega arith)
      | inr is ↦ is
    ] in
    let off : (64 * (p / 64) + place) % 64 ≡ place = omega arith in (
      omega arith,
      omega arith,
      rest_is n p row except (64 * (p / 64) + place) rows pages are read is small (omega arith) (omega arith) ∙ ap (λ i. bit i rest) off ∙ ap (λ b. b == 1) one,
      λ k above less.
          rest_is n p row except k rows pages are read is small above (omega arith) ∙ ap (λ b. b == 1) (low.2 (k % 64) (omega arith)),
    )
