-- Which hart has reserved which word, and what ends a reservation (Unprivileged ISA,
-- "Load-Reserved/Store-Conditional Instructions"). A reservation is the address of its aligned
-- word.
use Rattle.std.specs.Prelude.{ℕ, ◌-◌, ◌%◌, Bool, false, ◌==◌, if◌then◌else◌, List, Option, Some, None, map, slice_set, get_or}

-- the address of the word that has the byte at an address
abbrev pub word_of : ℕ → ℕ
word_of address = address - address % 4

-- a reservation after a word was written: none if it was for this word
abbrev pub without : ℕ → Option ℕ → Option ℕ
without word None = None
without word (Some w) = if w == word then None else Some w

-- LR: the hart's reservation is this word
abbrev pub held : ℕ → ℕ → List (Option ℕ) → List (Option ℕ)
held hart address words = slice_set words hart (Some address)

-- a debugger's write ends each reservation of the word
abbrev pub poked : ℕ → List (Option ℕ) → List (Option ℕ)
poked address words = map (without (word_of address)) words

-- a hart's store ends each reservation of the word but its own
abbrev pub stored : ℕ → ℕ → List (Option ℕ) → List (Option ℕ)
stored hart address words = slice_set (poked address words) hart (get_or words hart None)

-- SC ends its hart's reservation
abbrev pub released : ℕ → List (Option ℕ) → List (Option ℕ)
released hart words = slice_set words hart None

-- whether a reservation is for the word at an address
abbrev pub is_of : ℕ → Option ℕ → Bool
is_of address None = false
is_of address (Some w) = w == address

-- SC succeeds if its hart's reservation is for the word at the address
abbrev pub holds : ℕ → ℕ → List (Option ℕ) → Bool
holds hart address words = is_of address (get_or words hart None)
