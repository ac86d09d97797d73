-- Numbers among the words of a line.
use Rattle.std.specs.Prelude.{ℕ, ◌+◌, ◌-◌, ◌*◌, ◌^◌, ◌&&◌, nat_le, nat_lt, if◌then◌else◌, List, [], ◌∷◌, Option, Some, None, option_map}
use Rattle.std.specs.Str.{bytes_eq}
use Rattle.rvm_codec.specs.Codec.{◌>>=◌}
use Rattle.rvm_text.specs.Bytes.{is_digit}

-- the number that decimal digits spell after others that spell n, if it is below 2 ^ 64
abbrev pub long_after : (n : ℕ) → List ℕ → Option ℕ
long_after n [] = Some n
long_after n (b ∷ bs) =
    if is_digit b && nat_lt (n * 10 + (b - 48)) (2 ^ 64) then long_after (n * 10 + (b - 48)) bs else None

-- the number of a word of decimal digits
unfoldable pub long_in : List ℕ → Option ℕ
long_in [] = None
long_in (b ∷ bs) = long_after 0 (b ∷ bs)

-- a number that is in a range
abbrev pub in_range : (low high : ℕ) → ℕ → Option ℕ
in_range low high n = if nat_le low n && nat_le n high then Some n else None

-- the number of a word, if it is in a range
abbrev pub ranged : (low high : ℕ) → (word : List ℕ) → Option ℕ
ranged low high word = long_in word >>= in_range low high

-- the number after this word, if it is in a range, and the words after it
abbrev pub field : (name : List ℕ) → (low high : ℕ) → List (List ℕ) → Option (ℕ × List (List ℕ))
field name low high (w ∷ v ∷ ws) = if bytes_eq w name then option_map (λ n. (n, ws)) (ranged low high v) else None
field name low high ws = None
