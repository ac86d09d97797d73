-- The parts of an instruction's text.
use Rattle.std.specs.Prelude.{ℕ, ℤ, pos, ◌+ℤ◌, ◌/◌, ◌%◌, Bool, true, false, zero, suc, List, [], ◌∷◌, ◌++◌, codes}
use Rattle.std.specs.Fmt.{digits, digit_glyph}
use Rattle.rvm_word.specs.Word.{modulo}

-- the last this many hexadecimal digits of a number, in lower case
unfoldable pub hex_digits : (count n : ℕ) → List ℕ
hex_digits zero n = []
hex_digits (suc count) n = hex_digits count (n / 16) ++ digit_glyph false (n % 16) ∷ []

-- the same after 0x
abbrev pub hex : (count n : ℕ) → List ℕ
hex count n = codes "0x" ++ hex_digits count n

-- all hexadecimal digits of a number after 0x, without zeros before them
abbrev pub short_hex : ℕ → List ℕ
short_hex n = codes "0x" ++ digits 16 false n

-- what is between two operands
abbrev pub comma : List ℕ
comma = codes ", "

-- the address to which a jump or a branch at an address leads
abbrev pub target : (address : ℕ) → (offset : ℤ) → ℕ
target address offset = modulo 32 (pos address +ℤ offset)

-- the mnemonic of an atomic instruction with its ordering after it
abbrev pub ordered : (mnemonic : List ℕ) → (aq rl : Bool) → List ℕ
ordered mnemonic false false = mnemonic
ordered mnemonic true false = mnemonic ++ codes ".aq"
ordered mnemonic false true = mnemonic ++ codes ".rl"
ordered mnemonic true true = mnemonic ++ codes ".aqrl"

-- an address and a word before a text
abbrev pub listed : (address word : ℕ) → List ℕ
listed address word = hex_digits 8 address ++ codes ": " ++ hex_digits 8 word ++ codes "  "
