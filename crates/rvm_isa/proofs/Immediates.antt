-- The bits of signed immediates: those that are masked out of the number's word.
use Rattle.std.proofs.Common.{◌≡◌, ◌%◌, ◌^◌, ℤ, pos, negsuc, ap, ◌∙◌, arith, of_z, to_z, bit_and, FitsSigned}
use Rattle.std.specs.Int.{w32}
use Rattle.std.proofs.lemmas.Int.{ints}
use Rattle.std.proofs.lemmas.Nat.{and_mask}
use Rattle.rvm_word.specs.Word.{signed_value, signed, modulo, FitsSignedBits}
use Rattle.rvm_word.proofs.Signed.{signed_value-modulo}
use Rattle.rvm_word.proofs.Casts.{returned}

masked_12 : (z : ℤ) → modulo 32 z % 2 ^ 12 ≡ modulo 12 z
masked_12 (pos k) = omega arith
masked_12 (negsuc k) = omega arith

-- a number of 12 bits is the signed value of the bits that its word is masked with
pub value_of_12 : (z : ℤ) → FitsSignedBits 12 z →
    signed_value 12 (bit_and (of_z w32 (to_z w32 (of_z w32 z))) 0xFFF) ≡ z
value_of_12 z in_range =
    let fits : FitsSigned w32 z = grind (arith, ints) in
    ap (λ m. signed_value 12 (bit_and m 0xFFF)) (returned z fits)
    ∙ ap (signed_value 12) (and_mask (modulo 32 z) 12 ∙ masked_12 z)
    ∙ signed_value-modulo 12 z (omega arith) in_range

masked_13 : (z : ℤ) → modulo 32 z % 2 ^ 13 ≡ modulo 13 z
masked_13 (pos k) = omega arith
masked_13 (negsuc k) = omega arith

-- a number of 13 bits is the signed value of the bits that its word is masked with
pub value_of_13 : (z : ℤ) → FitsSignedBits 13 z →
    signed_value 13 (bit_and (of_z w32 (to_z w32 (of_z w32 z))) 0x1FFF) ≡ z
value_of_13 z in_range =
    let fits : FitsSigned w32 z = grind (arith, ints) in
    ap (λ m. signed_value 13 (bit_and m 0x1FFF)) (returned z fits)
    ∙ ap (signed_value 13) (and_mask (modulo 32 z) 13 ∙ masked_13 z)
    ∙ signed_value-modulo 13 z (omega arith) in_range

masked_21 : (z : ℤ) → modulo 32 z % 2 ^ 21 ≡ modulo 21 z
masked_21 (pos k) = omega arith
masked_21 (negsuc k) = omega arith

-- a number of 21 bits is the signed value of the bits that its word is masked with
pub value_of_21 : (z : ℤ) → FitsSignedBits 21 z →
    signed_value 21 (bit_and (of_z w32 (to_z w32 (of_z w32 z))) 0x1FFFFF) ≡ z
value_of_21 z in_range =
    let fits : FitsSigned w32 z = grind (arith, ints) in
    ap (λ m. signed_value 21 (bit_and m 0x1FFFFF)) (returned z fits)
    ∙ ap (signed_value 21) (and_mask (modulo 32 z) 21 ∙ masked_21 z)
    ∙ signed_value-modulo 21 z (omega arith) in_range

-- an immediate of 12 bits is the signed value of its word
pub value_of_word : (z : ℤ) → FitsSignedBits 12 z →
    signed (of_z w32 (to_z w32 (of_z w32 z))) ≡ z
value_of_word z in_range =
    let fits : FitsSigned w32 z = grind (arith, ints) in
    let in_word : FitsSignedBits 32 z = grind (arith, ints) in
    ap signed (returned z fits) ∙ signed_value-modulo 32 z (omega arith) in_word

pub ruleset values = (value_of_12, value_of_13, value_of_21, value_of_word)
