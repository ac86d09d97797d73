-- Bytes that are written as pairs of hexadecimal digits.
use Rattle.std.specs.Prelude.{ℕ, ◌+◌, ◌*◌, ◌%◌, ◌==◌, ◌&&◌, nat_lt, nat_le, Bool, not, if◌then◌else◌, List, [], ◌∷◌, length, Option, Some, None}
use Rattle.std.specs.List.{list_all}
use Rattle.rvm_text.specs.Numbers.{digit_value}

-- whether a byte is a hexadecimal digit, small or capital
abbrev pub is_hex_digit : ℕ → Bool
is_hex_digit b = nat_lt (digit_value b) 16

-- the bytes of pairs of digits, the high four bits first
unfoldable pub bytes_in : List ℕ → List ℕ
bytes_in [] = []
bytes_in (a ∷ []) = []
bytes_in (a ∷ b ∷ bs) = (digit_value a * 16 + digit_value b) ∷ bytes_in bs

-- whether a word is an even number, at least two, of hexadecimal digits
abbrev pub is_hex : List ℕ → Bool
is_hex word =
    list_all is_hex_digit word && length word % 2 == 0 && not (length word == 0)

-- the bytes of a word
unfoldable pub hex_of : List ℕ → Option (List ℕ)
hex_of word = if is_hex word then Some (bytes_in word) else None

-- the bytes, if they are at most 256
abbrev pub small : List ℕ → Option (List ℕ)
small bytes = if nat_le (length bytes) 256 then Some bytes else None
