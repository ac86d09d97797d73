-- A symbol of an image, and how a line of `nm -n` writes its address and its kind.
use Rattle.std.specs.Prelude.{ℕ, ◌==◌, if◌then◌else◌, Bool, true, false, List, [], ◌∷◌, Option, None, length}
use Rattle.rvm_text.specs.Numbers.{number_in}

-- a symbol: the address from which on it has the words of RAM, and its name
pub record Symbol : Type 0 where
  pub address : ℕ
  pub name : List ℕ

-- the address that a word of eight hexadecimal digits spells
unfoldable pub address_of : (word : List ℕ) → Option ℕ
address_of word = if length word == 8 then number_in 16 word else None

-- whether a word is the letter of a kind of symbols: one byte
abbrev pub is_kind : (word : List ℕ) → Bool
is_kind (b ∷ []) = true
is_kind word = false
