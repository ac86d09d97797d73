-- What the casts between unsigned and signed numbers give, as signed values and words.
use Rattle.std.proofs.Common.{◌≡◌, ℕ, zero, suc, ◌+◌, ◌-◌, ◌*◌, ◌/◌, ◌%◌, ◌^◌, ◌<◌, ◌≤◌, ℤ, pos, negsuc, neg_ℤ, ◌*ℤ◌, refl, sym, ap, ◌∙◌, arith, inl, inr, to_z, of_z, lit<}
use Rattle.std.specs.Prelude.{int_div, FitsSigned, unsigned_abs}
use Rattle.std.specs.Int.{Width, w32, w64}
use Rattle.std.specs.Int.Signed.{shr_z}
use Rattle.std.proofs.lemmas.Bool.{cases_lt}
use Rattle.std.proofs.lemmas.Bool.Decides.{nat_tests}
use Rattle.std.proofs.lemmas.Int.{ints, to_z-of_z, of_z-to_z, fits_signed_mul}
use Rattle.std.proofs.lemmas.Nat.{pow_pos, pow-add, mod-pow-add, shl-shr, div-mul-add, mod_below}
use Rattle.std.proofs.Math.Nat.{div-le_self, mul-mod_left, mul-le-mul_right, mul-lt-mul_of_pos_right, add-mul, suc-mul}
use Rattle.rvm_word.specs.Word.{signed_value, signed, modulo}
use Rattle.rvm_word.proofs.Signed.{lower, upper}

-- a signed number as a call passes it on
abbrev pub carried : Width → ℤ → ℤ
carried w z = to_z w (of_z w z)

pub cast_signed_is : (a : ℕ) → a < 2 ^ 32 → to_z w32 a ≡ signed a
unfolding signed_value
cast_signed_is a small = grind (arith, ints, nat_tests)

-- a word that was cast to signed and passed on
pub passed : (a : ℕ) (z : ℤ) → a < 2 ^ 32 → z ≡ to_z w32 a → carried w32 z ≡ signed a
passed a z small e =
    ap (carried w32) e ∙ ap (to_z w32) (of_z-to_z w32 a small) ∙ cast_signed_is a small

cast_word_is : (z : ℤ) → FitsSigned w32 z → of_z w32 z ≡ modulo 32 z
cast_word_is (pos n) fits = grind (arith, ints)
cast_word_is (negsuc n) fits = grind (arith, ints)

cast_double_is : (z : ℤ) → FitsSigned w64 z → of_z w64 z ≡ modulo 64 z
cast_double_is (pos n) fits = grind (arith, ints)
cast_double_is (negsuc n) fits = grind (arith, ints)

-- a signed number that was passed on and cast to a word
pub returned : (z : ℤ) → FitsSigned w32 z → of_z w32 (carried w32 z) ≡ modulo 32 z
returned z fits = ap (of_z w32) (to_z-of_z w32 z fits) ∙ cast_word_is z fits

size_of_signed : (a : ℕ) → a < 2 ^ 32 → unsigned_abs (signed a) ≤ 2 ^ 31
unfolding signed_value
size_of_signed a small = grind (arith, ints, nat_tests)

-- a product of two numbers of 33 bits, cast to a double word
product : (x y : ℤ) → unsigned_abs x ≤ 2 ^ 31 → unsigned_abs y < 2 ^ 32
    → of_z w64 (carried w64 (carried w64 x *ℤ carried w64 y)) ≡ modulo 64 (x *ℤ y)
product x y small_x small_y =
    let fits_x : FitsSigned w64 x = grind (arith, ints) in
    let fits_y : FitsSigned w64 y = grind (arith, ints) in
    let bound_y : unsigned_abs y ≤ 2 ^ 32 - 1 = omega arith in
    let fits : FitsSigned w64 (x *ℤ y) =
    fits_signed_mul w64 x y (2 ^ 31) (2 ^ 32 - 1) small_x bound_y (lit< tt) in
    ap (λ u. of_z w64 (carried w64 (u *ℤ carried w64 y))) (to_z-of_z w64 x fits_x)
    ∙ ap (λ u. of_z w64 (carried w64 (x *ℤ u))) (to_z-of_z w64 y fits_y)
    ∙ ap (of_z w64) (to_z-of_z w64 (x *ℤ y) fits)
    ∙ cast_double_is (x *ℤ y) fits

pub product_signed : (a b : ℕ) → a < 2 ^ 32 → b < 2 ^ 32
    → of_z w64 (carried w64 (carried w64 (signed a) *ℤ carried w64 (signed b)))
    ≡ modulo 64 (signed a *ℤ signed b)
product_signed a b small_a small_b =
    let below = size_of_signed b small_b in
    product (signed a) (signed b) (size_of_signed a small_a) (omega arith)

pub product_mixed : (a b : ℕ) → a < 2 ^ 32 → b < 2 ^ 32
    → of_z w64 (carried w64 (carried w64 (signed a) *ℤ carried w64 (pos b)))
    ≡ modulo 64 (signed a *ℤ pos b)
product_mixed a b small_a small_b = product (signed a) (pos b) (size_of_signed a small_a) small_b

size_of_negated : (n : ℕ) → unsigned_abs (neg_ℤ (pos n)) ≡ n
size_of_negated zero = refl
size_of_negated (suc n) = refl

size_of_quotient : (x y : ℤ) → unsigned_abs x ≤ 2 ^ 31 → unsigned_abs (int_div x y) ≤ 2 ^ 31
size_of_quotient (pos a) (pos b) h = omega (arith, h, div-le_self a b)
size_of_quotient (pos a) (negsuc b) h = omega (arith, h, div-le_self a (suc b), size_of_negated (a / suc b))
size_of_quotient (negsuc a) (pos b) h = omega (arith, h, div-le_self (suc a) b, size_of_negated (suc a / b))
size_of_quotient (negsuc a) (negsuc b) h = omega (arith, h, div-le_self (suc a) (suc b))

-- 2 ^ 31, which does not fit, becomes a word all the same
wrapped : (z : ℤ) → unsigned_abs z ≤ 2 ^ 31 → (of_z w32 z ≡ modulo 32 z) × (of_z w32 z < 2 ^ 32)
wrapped (pos n) small = (grind (arith, ints), grind (arith, ints))
wrapped (negsuc n) small = (grind (arith, ints), grind (arith, ints))

-- a quotient, which wraps, cast to a word
pub quotient_wraps : (a : ℕ) (y : ℤ) → a < 2 ^ 32 →
    of_z w32 (carried w32 (carried w32 (int_div (signed a) y))) ≡ modulo 32 (int_div (signed a) y)
quotient_wraps a y small =
    let z = int_div (signed a) y in
    let w = wrapped z (size_of_quotient (signed a) y (size_of_signed a small)) in
    let kept = of_z-to_z w32 (of_z w32 z) w.1 in
    ap (λ n. of_z w32 (to_z w32 n)) kept ∙ kept ∙ w.0

-- the lowest bits of a number, shifted up to the top of a word
shifted_up : (bits v : ℕ) → bits ≤ 32 → v * 2 ^ (32 - bits) % 2 ^ 32 ≡ v % 2 ^ bits * 2 ^ (32 - bits)
shifted_up bits v within =
    let u = 32 - bits in
    let e : bits + u ≡ 32 = omega arith in
    ap (λ k. v * 2 ^ u % 2 ^ k) (sym e)
    ∙ mod-pow-add (v * 2 ^ u) bits u
    ∙ ap (λ n. n % 2 ^ bits * 2 ^ u + v * 2 ^ u % 2 ^ u) (shl-shr v u)
    ∙ omega (arith, mul-mod_left v (2 ^ u))

-- the signed value of the top bits of a word, shifted down again
shifted_down : (bits m : ℕ) → 0 < bits → bits ≤ 32 → m < 2 ^ bits →
    shr_z (signed (m * 2 ^ (32 - bits))) (2 ^ (32 - bits)) ≡ signed_value bits m
shifted_down bits m some within small =
    let u = 32 - bits in
    let t = 2 ^ u in
    let positive = pow_pos u in
    let half : 2 ^ 31 ≡ 2 ^ (bits - 1) * t =
    (let e : 31 ≡ bits - 1 + u = omega arith in ap (λ k. 2 ^ k) e) ∙ pow-add 2 (bits - 1) u in
    let whole : 2 ^ 32 ≡ 2 ^ bits * t =
    (let e : 32 ≡ bits + u = omega arith in ap (λ k. 2 ^ k) e) ∙ pow-add 2 bits u in
    elim (cases_lt m (2 ^ (bits - 1))) [
      | inl below ↦
          let low : m * t < 2 ^ (32 - 1) = omega (arith, half, mul-lt-mul_of_pos_right below positive) in
          ap (λ z. shr_z z t) (lower 32 (m * t) low) ∙ ap pos (shl-shr m u) ∙ sym (lower bits m below)
      | inr above ↦
          let j = 2 ^ bits - suc m in
          let rest : m + suc j ≡ 2 ^ bits = omega arith in
          let high : 2 ^ (32 - 1) ≤ m * t = omega (arith, half, mul-le-mul_right t above) in
          let sum : m * t + suc (j * t + (t - 1)) ≡ 2 ^ 32 =
          omega (arith, whole, ap (λ n. n * t) rest, add-mul m (suc j) t, suc-mul j t) in
          ap (λ z. shr_z z t) (upper 32 (m * t) (j * t + (t - 1)) high sum)
          ∙ ap negsuc (div-mul-add j t (t - 1) (omega arith))
          ∙ sym (upper bits m j above rest)
    ]

fits_signed : (a : ℕ) → a < 2 ^ 32 → FitsSigned w32 (signed a)
unfolding signed_value
fits_signed a small = grind (arith, ints, nat_tests)

fits_shifted : (z : ℤ) (m : ℕ) → FitsSigned w32 z → FitsSigned w32 (shr_z z m)
fits_shifted (pos n) m fits = grind (arith, ints, div-le_self)
fits_shifted (negsuc n) m fits = grind (arith, ints, div-le_self)

-- bits shifted up to the top of a word and down again, with their sign
pub extended : (bits v : ℕ) → 0 < bits → bits ≤ 32 →
    of_z w32 (carried w32 (shr_z (signed (v * 2 ^ (32 - bits) % 2 ^ 32)) (2 ^ (32 - bits)))) ≡
    modulo 32 (signed_value bits (v % 2 ^ bits))
extended bits v some within =
    let t = 2 ^ (32 - bits) in
    let small = mod_below v (2 ^ bits) (pow_pos bits) in
    let z = signed (v * t % 2 ^ 32) in
    let fits = fits_shifted z t (fits_signed (v * t % 2 ^ 32) (omega arith)) in
    returned (shr_z z t) fits
    ∙ ap (λ n. modulo 32 (shr_z (signed n) t)) (shifted_up bits v within)
    ∙ ap (modulo 32) (shifted_down bits (v % 2 ^ bits) some within small)

pub ruleset casts = (passed, returned, product_signed, product_mixed, quotient_wraps)
