-- The lines of a script, and the words of a line.
use Rattle.std.specs.Prelude.{ℕ, ◌-◌, ◌==◌, if◌then◌else◌, Bool, false, List, [], ◌∷◌, ◌++◌, length, take, slice_index}
use Rattle.rvm_text.specs.Bytes.{is_space}

-- what is open at the end, if it has a byte
abbrev pub piece : List ℕ → List (List ℕ)
piece [] = []
piece (b ∷ bs) = (b ∷ bs) ∷ []

-- the lines of the bytes after those of a line that is open
unfoldable pub lines_from : List ℕ → (line : List ℕ) → List (List ℕ)
lines_from [] line = piece line
lines_from (b ∷ bs) line =
    if b == 10 then line ∷ lines_from bs [] else lines_from bs (line ++ b ∷ [])

-- the lines of a script: each ends with a line feed, but the last line may end without one
abbrev pub lines : List ℕ → List (List ℕ)
lines script = lines_from script []

-- a line without the carriage return at its end
abbrev pub without_return : List ℕ → List ℕ
without_return line =
    if slice_index line (length line - 1) == 13 then take (length line - 1) line else line

-- the words of the bytes after those of a word that is open
unfoldable pub words_from : List ℕ → (word : List ℕ) → List (List ℕ)
words_from [] word = piece word
words_from (b ∷ bs) word =
    if is_space b then piece word ++ words_from bs [] else words_from bs (word ++ b ∷ [])

-- the words of a line: spaces and tabs separate them
abbrev pub words : List ℕ → List (List ℕ)
words line = words_from line []

-- whether bytes begin with a space or a tab
abbrev pub begins_blank : List ℕ → Bool
begins_blank [] = false
begins_blank (b ∷ bs) = is_space b
