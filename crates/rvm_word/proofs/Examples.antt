-- Values that the standard states, computed by the definitions.
use Rattle.std.proofs.Common.{◌≡◌, [], ◌∷◌, ◌*◌, ◌/◌, ◌%◌, ◌^◌, ◌*ℤ◌, ◌+ℤ◌, pos, negsuc, true, false, refl}
use Rattle.std.specs.Prelude.{int_lt}
use Rattle.rvm_word.specs.Bits.{bit, is_set, low_half, high_half, with_low, with_high}
use Rattle.rvm_word.specs.Word.{signed_value, signed, modulo, high, floor_shift, quotient, remainder, unsigned_quotient, unsigned_remainder}

-- the one signed division that overflows: -2 ^ 31 by -1
quotient_overflows : quotient 0x80000000 0xFFFFFFFF ≡ 0x80000000
unfolding signed_value
quotient_overflows = refl

remainder_overflows : remainder 0x80000000 0xFFFFFFFF ≡ 0
unfolding signed_value
remainder_overflows = refl

-- by zero
quotient_by_zero : quotient 7 0 ≡ 0xFFFFFFFF
quotient_by_zero = refl

remainder_by_zero : remainder 7 0 ≡ 7
remainder_by_zero = refl

unsigned_quotient_by_zero : unsigned_quotient 7 0 ≡ 0xFFFFFFFF
unsigned_quotient_by_zero = refl

unsigned_remainder_by_zero : unsigned_remainder 7 0 ≡ 7
unsigned_remainder_by_zero = refl

-- the manual's table of divisions: 20 and -20 by 6 and -6
quotients : quotient 20 6 ∷ quotient 0xFFFFFFEC 6 ∷ quotient 20 0xFFFFFFFA ∷ quotient 0xFFFFFFEC 0xFFFFFFFA ∷ []
    ≡ 3 ∷ 0xFFFFFFFD ∷ 0xFFFFFFFD ∷ 3 ∷ []
unfolding signed_value
quotients = refl

remainders : remainder 20 6 ∷ remainder 0xFFFFFFEC 6 ∷ remainder 20 0xFFFFFFFA ∷ remainder 0xFFFFFFEC 0xFFFFFFFA ∷ []
    ≡ 2 ∷ 0xFFFFFFFE ∷ 2 ∷ 0xFFFFFFFE ∷ []
unfolding signed_value
remainders = refl

unsigned_quotients : unsigned_quotient 0xFFFFFFEC 6 ∷ unsigned_quotient 0x80000000 0xFFFFFFFF ∷ [] ≡ 0x2AAAAAA7 ∷ 0 ∷ []
unsigned_quotients = refl

unsigned_remainders : unsigned_remainder 0xFFFFFFEC 6 ∷ unsigned_remainder 0x80000000 0xFFFFFFFF ∷ [] ≡ 2 ∷ 0x80000000 ∷ []
unsigned_remainders = refl

-- -7 by 2 rounds towards zero: -3, and -1 is left
quotient_rounds : quotient 0xFFFFFFF9 2 ≡ 0xFFFFFFFD
unfolding signed_value
quotient_rounds = refl

remainder_keeps_sign : remainder 0xFFFFFFF9 2 ≡ 0xFFFFFFFF
unfolding signed_value
remainder_keeps_sign = refl

-- the upper word of 0xFFFFFFFF by itself: both signed, the first signed, neither signed
high_signed : high (signed 0xFFFFFFFF *ℤ signed 0xFFFFFFFF) ≡ 0
unfolding signed_value
high_signed = refl

high_mixed : high (signed 0xFFFFFFFF *ℤ pos 0xFFFFFFFF) ≡ 0xFFFFFFFF
unfolding signed_value
high_mixed = refl

high_unsigned : 0xFFFFFFFF * 0xFFFFFFFF / 2 ^ 32 ≡ 0xFFFFFFFE
high_unsigned = refl

-- products of the public tests of RISC-V
high_signed_of_unlike : high (signed 0xAAAAAAAB *ℤ signed 0x0002FE7D) ∷ high (signed 0x80000000 *ℤ signed 0xFFFF8000) ∷ []
    ≡ 0xFFFF0081 ∷ 0x00004000 ∷ []
unfolding signed_value
high_signed_of_unlike = refl

high_mixed_of_unlike : high (signed 0x0002FE7D *ℤ pos 0xAAAAAAAB) ∷ high (signed 0x80000000 *ℤ pos 0xFFFF8000) ∷ []
    ≡ 0x0001FEFE ∷ 0x80004000 ∷ []
unfolding signed_value
high_mixed_of_unlike = refl

high_unsigned_of_unlike : 0xAAAAAAAB * 0x0002FE7D / 2 ^ 32 ∷ 0x80000000 * 0xFFFF8000 / 2 ^ 32 ∷ []
    ≡ 0x0001FEFE ∷ 0x7FFFC000 ∷ []
high_unsigned_of_unlike = refl

-- right shifts of the public tests of RISC-V
shifts_fill_with_the_sign : modulo 32 (floor_shift (signed 0x81818181) 7) ∷ modulo 32 (floor_shift (signed 0x80000000) 31)
    ∷ modulo 32 (floor_shift (signed 0x7FFFFFFF) 31) ∷ modulo 32 (floor_shift (signed 0x80000000) 0) ∷ []
    ≡ 0xFF030303 ∷ 0xFFFFFFFF ∷ 0 ∷ 0x80000000 ∷ []
unfolding signed_value
shifts_fill_with_the_sign = refl

-- -5 shifted right by one is -3
shift_rounds_down : modulo 32 (floor_shift (signed 0xFFFFFFFB) 1) ≡ 0xFFFFFFFD
unfolding signed_value
shift_rounds_down = refl

-- the byte 0x80 is -128
byte_is_negative : signed_value 8 0x80 ≡ negsuc 127
unfolding signed_value
byte_is_negative = refl

-- the bits above a byte do not count
bits_above_a_byte : signed_value 8 (0x180 % 2 ^ 8) ∷ signed_value 8 (0xFF7F % 2 ^ 8) ∷ [] ≡ negsuc 127 ∷ pos 127 ∷ []
unfolding signed_value
bits_above_a_byte = refl

half_is_extended : modulo 32 (signed_value 16 0x8000) ≡ 0xFFFF8000
unfolding signed_value
half_is_extended = refl

-- 4 before 0
sum_wraps : modulo 32 (pos 0 +ℤ negsuc 3) ≡ 0xFFFFFFFC
sum_wraps = refl

-- -1 is below 0
minus_one_is_below : int_lt (signed 0xFFFFFFFF) (signed 0) ≡ true
unfolding signed_value
minus_one_is_below = refl

-- bits count from the least
bit_3 : is_set 3 0x00000008 ≡ true
bit_3 = refl

all_but_bit_3 : is_set 3 0xFFFFFFF7 ≡ false
all_but_bit_3 = refl

weight_of_a_bit : bit 8 true ≡ 8
weight_of_a_bit = refl

-- halves of 2 ^ 32 + 2
halves : low_half 0x1_0000_0002 ≡ 2
halves = refl

upper_half : high_half 0x1_0000_0002 ≡ 1
upper_half = refl

low_half_is_written : with_low 5 0x1_0000_0002 ≡ 0x1_0000_0005
low_half_is_written = refl

high_half_is_written : with_high 5 0x1_0000_0002 ≡ 0x5_0000_0002
high_half_is_written = refl
