-- Signed values of numbers of this many bits, and the numbers that they come from.
use Rattle.std.proofs.Common.{◌≡◌, ℕ, zero, suc, ◌+◌, ◌-◌, ◌%◌, ◌^◌, ◌<◌, ◌≤◌, ℤ, pos, negsuc, neg_ℤ, ◌+ℤ◌, ap, ◌∙◌, arith, inl, inr}
use Rattle.std.proofs.lemmas.Bool.{cases_lt}
use Rattle.std.proofs.lemmas.Bool.Decides.{nat_tests}
use Rattle.std.proofs.lemmas.Int.{ints}
use Rattle.std.proofs.lemmas.Nat.{pow_pos, mod_below}
use Rattle.std.proofs.Math.Nat.{pow-suc, mod-eq_of_lt}
use Rattle.rvm_word.specs.Word.{signed_value, modulo, FitsSignedBits}

-- what is added to a word may be reduced first
pub modulo-add : (a : ℕ) (z : ℤ) → modulo 32 (pos a +ℤ z) ≡ (a + modulo 32 z) % 2 ^ 32
modulo-add a (pos n) = omega arith
modulo-add a (negsuc n) =
    elim (cases_lt n a) [
      | inl below ↦
          let e : pos a +ℤ negsuc n ≡ pos (a - suc n) = omega (arith, ints) in
          ap (modulo 32) e ∙ omega arith
      | inr above ↦
          let e : pos a +ℤ negsuc n ≡ negsuc (n - a) = omega (arith, ints) in
          ap (modulo 32) e ∙ omega arith
    ]

-- the numbers of this many bits have two halves
pub halves : (bits : ℕ) → 0 < bits → 2 ^ bits ≡ 2 ^ (bits - 1) + 2 ^ (bits - 1)
halves zero some = absurd (omega arith)
halves (suc k) some =
    let same : suc k - 1 ≡ k = omega arith in
    rw same (omega (arith, pow-suc 2 k))

-- the lower half stands for itself
pub lower : (bits n : ℕ) → n < 2 ^ (bits - 1) → signed_value bits n ≡ pos n
unfolding signed_value
lower bits n below = grind (arith, nat_tests)

-- the upper half stands for what is missing to 2 ^ bits
pub upper : (bits n j : ℕ) → 2 ^ (bits - 1) ≤ n → n + suc j ≡ 2 ^ bits → signed_value bits n ≡ negsuc j
unfolding signed_value
upper bits n j above e =
    let missing : 2 ^ bits - n ≡ suc j = omega arith in
    let g : signed_value bits n ≡ neg_ℤ (pos (2 ^ bits - n)) = grind (arith, nat_tests) in
    g ∙ ap (λ k. neg_ℤ (pos k)) missing

-- the signed value of a number of this many bits, reduced, is that number
pub modulo-signed_value : (bits n : ℕ) → 0 < bits → n < 2 ^ bits → modulo bits (signed_value bits n) ≡ n
modulo-signed_value bits n some small =
    elim (cases_lt n (2 ^ (bits - 1))) [
      | inl below ↦ ap (modulo bits) (lower bits n below) ∙ mod-eq_of_lt small
      | inr above ↦
          let j = 2 ^ bits - suc n in
          let e : n + suc j ≡ 2 ^ bits = omega arith in
          let small_j : j < 2 ^ bits = omega arith in
          let kept : j % 2 ^ bits ≡ j = mod-eq_of_lt small_j in
          ap (modulo bits) (upper bits n j above e) ∙ omega arith
    ]

-- a whole number in range, reduced, has itself as its signed value
pub signed_value-modulo : (bits : ℕ) (z : ℤ) → 0 < bits →
    FitsSignedBits bits z → signed_value bits (modulo bits z) ≡ z
signed_value-modulo bits (pos n) some (low, high) =
    let two = halves bits some in
    let below : n < 2 ^ (bits - 1) = omega (arith, ints) in
    let small : n < 2 ^ bits = omega arith in
    ap (signed_value bits) (mod-eq_of_lt small) ∙ lower bits n below
signed_value-modulo bits (negsuc n) some (low, high) =
    let two = halves bits some in
    let below : n < 2 ^ (bits - 1) = omega (arith, ints) in
    let small : n < 2 ^ bits = omega arith in
    let kept : n % 2 ^ bits ≡ n = mod-eq_of_lt small in
    upper bits (2 ^ bits - 1 - n % 2 ^ bits) n (omega arith) (omega arith)

-- the signed value of a number of this many bits is in range
pub signed_value_fits : (bits n : ℕ) → 0 < bits → n < 2 ^ bits →
    FitsSignedBits bits (signed_value bits n)
unfolding signed_value
signed_value_fits bits n some small =
    let two = halves bits some in
    let positive = pow_pos (bits - 1) in
    (grind (arith, ints, nat_tests), grind (arith, ints, nat_tests))

-- a reduced number lies below the modulus
pub modulo_below : (bits : ℕ) (z : ℤ) → modulo bits z < 2 ^ bits
modulo_below bits (pos n) = mod_below n (2 ^ bits) (pow_pos bits)
modulo_below bits (negsuc n) = omega (arith, pow_pos bits)

-- there and back between numbers of this many bits and their signed values
pub ruleset signed_values = (modulo-signed_value, signed_value-modulo)
