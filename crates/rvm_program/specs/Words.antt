-- Words of a command line as bytes.
use Rattle.std.specs.Prelude.{◌<◌, ℕ, List, [], get_or, length}
use Rattle.std.specs.Str.{IsUtf8}
use Rattle.rvm_program.specs.declared.words.WordsFault.{WordsFault}
use Rattle.rvm_program.specs.declared.words.WordsFault.TheVariants as fault

-- the word with this index
abbrev pub word_at : (words : List (List ℕ)) → (place : ℕ) → List ℕ
word_at words place = get_or words place []

-- why words are no texts: memory ran out, or the one with this index is not UTF-8
abbrev pub IsWordsFault : (words : List (List ℕ)) → WordsFault → Type 0
IsWordsFault words fault.OutOfMemory = Unit {0}
IsWordsFault words (fault.NotText place) = (place < length words) × (IsUtf8 (word_at words place) → ⊥)
