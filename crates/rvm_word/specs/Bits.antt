-- Bits of a word, and the halves of a 64-bit number, as 32-bit registers show them.
use Rattle.std.specs.Prelude.{ℕ, ◌+◌, ◌*◌, ◌/◌, ◌%◌, ◌^◌, Bool, ◌==◌, if◌then◌else◌}

-- the weight of a bit if it is set, else 0
abbrev pub bit : ℕ → Bool → ℕ
bit weight b = if b then weight else 0

-- whether bit n of a word is set; bit 0 has the least weight
abbrev pub is_set : ℕ → ℕ → Bool
is_set n w = w / 2 ^ n % 2 == 1

-- bits 31 to 0 of a 64-bit number
abbrev pub low_half : ℕ → ℕ
low_half n = n % 2 ^ 32

-- bits 63 to 32 of a 64-bit number
abbrev pub high_half : ℕ → ℕ
high_half n = n / 2 ^ 32

-- the number with its low half replaced
abbrev pub with_low : ℕ → ℕ → ℕ
with_low v n = high_half n * 2 ^ 32 + v

-- the number with its high half replaced
abbrev pub with_high : ℕ → ℕ → ℕ
with_high v n = v * 2 ^ 32 + low_half n
