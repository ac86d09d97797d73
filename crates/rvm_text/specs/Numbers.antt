-- The numbers that words spell.
use Rattle.std.specs.Prelude.{ℕ, ◌+◌, ◌-◌, ◌*◌, ◌^◌, ◌&&◌, ◌==◌, nat_le, nat_lt, if◌then◌else◌, List, [], ◌∷◌, Option, Some, None}
use Rattle.rvm_text.specs.Bytes.{is_digit}

-- the value of a digit in lower or upper case, and 16 if the byte is no digit
abbrev pub digit_value : ℕ → ℕ
digit_value b =
    if is_digit b then b - 48
    else (if nat_le 97 b && nat_le b 102 then b - 87
    else (if nat_le 65 b && nat_le b 70 then b - 55 else 16))

-- the number that digits spell after others that spell n, if it is below 2 ^ 32
abbrev pub number_after : (radix n : ℕ) → List ℕ → Option ℕ
number_after radix n [] = Some n
number_after radix n (b ∷ bs) =
    if nat_lt (digit_value b) radix && nat_lt (n * radix + digit_value b) (2 ^ 32)
    then number_after radix (n * radix + digit_value b) bs
    else None

-- the number that one digit or more spell
abbrev pub number_in : (radix : ℕ) → List ℕ → Option ℕ
number_in radix [] = None
number_in radix (b ∷ bs) = number_after radix 0 (b ∷ bs)

-- the number of a word: hexadecimal after 0x, binary after 0b, else decimal
abbrev pub number_of : List ℕ → Option ℕ
number_of [] = None
number_of (a ∷ []) = number_in 10 (a ∷ [])
number_of (a ∷ b ∷ bs) =
    if a == 48 && b == 120 then number_in 16 bs
    else (if a == 48 && b == 98 then number_in 2 bs else number_in 10 (a ∷ b ∷ bs))
