-- Words of 32 bits and the whole numbers that they stand for. A word itself is a number below
-- 2 ^ 32.
use Rattle.std.specs.Prelude.{ℕ, ℤ, pos, negsuc, neg_ℤ, ◌-◌, ◌/◌, ◌%◌, ◌^◌, ◌≤ℤ◌, ◌<ℤ◌}
use Rattle.std.specs.Prelude.{int_div, int_rem, if◌then◌else◌, ◌==◌, nat_lt}

-- the value of a two's complement number of this many bits: numbers from half of 2 ^ bits on are
-- negative
unfoldable pub signed_value : (bits n : ℕ) → ℤ
signed_value bits n = if nat_lt n (2 ^ (bits - 1)) then pos n else neg_ℤ (pos (2 ^ bits - n))

-- a whole number is the signed value of some number of this many bits
abbrev pub FitsSignedBits : (bits : ℕ) → ℤ → Type 0
FitsSignedBits bits z = (neg_ℤ (pos (2 ^ (bits - 1))) ≤ℤ z) × (z <ℤ pos (2 ^ (bits - 1)))

-- the signed value of a word
abbrev pub signed : ℕ → ℤ
signed a = signed_value 32 a

-- a whole number reduced modulo 2 ^ bits
abbrev pub modulo : (bits : ℕ) → ℤ → ℕ
modulo bits (pos n) = n % 2 ^ bits
modulo bits (negsuc n) = 2 ^ bits - 1 - n % 2 ^ bits

-- the upper word of a product of two words
abbrev pub high : ℤ → ℕ
high z = modulo 64 z / 2 ^ 32

-- the greatest whole number that is at most z / 2 ^ amount
abbrev pub floor_shift : ℤ → (amount : ℕ) → ℤ
floor_shift (pos n) amount = pos (n / 2 ^ amount)
floor_shift (negsuc n) amount = negsuc (n / 2 ^ amount)

-- the signed quotient of two words, rounded towards zero; all ones if the divisor is 0
-- (Unprivileged ISA, "M" Standard Extension, "Division Operations")
abbrev pub quotient : ℕ → ℕ → ℕ
quotient a b = if b == 0 then 2 ^ 32 - 1 else modulo 32 (int_div (signed a) (signed b))

-- the remainder of that quotient, with the sign of the dividend; the dividend if the divisor is 0
abbrev pub remainder : ℕ → ℕ → ℕ
remainder a b = if b == 0 then a else modulo 32 (int_rem (signed a) (signed b))

-- the unsigned quotient of two words; all ones if the divisor is 0
abbrev pub unsigned_quotient : ℕ → ℕ → ℕ
unsigned_quotient a b = if b == 0 then 2 ^ 32 - 1 else a / b

-- the remainder of that unsigned quotient; the dividend if the divisor is 0
abbrev pub unsigned_remainder : ℕ → ℕ → ℕ
unsigned_remainder a b = if b == 0 then a else a % b
