-- The lexical grammar of a line: what its bytes are read as, in order.
use Rattle.std.specs.Prelude.{ℕ, if◌then◌else◌, ◌==◌, nat_lt, List, [], ◌∷◌, ◌++◌, Option, Some, None, option_map}
use Rattle.rvm_text.specs.Bytes.{is_word, is_space, is_mark, is_escape}

-- a part of a line: a name or number as it is written, a mark, a string as it is written between
-- its quotes
pub data Lexeme : Type 0 where
  Word : List ℕ → Lexeme
  Mark : ℕ → Lexeme
  Quoted : List ℕ → Lexeme

-- where the reading stands, with the bytes of what is open: between lexemes, in a word, in a
-- string, after its '\', in a comment
pub data Mode : Type 0 where
  Between : Mode
  InWord : List ℕ → Mode
  InString : List ℕ → Mode
  Escaped : List ℕ → Mode
  InComment : Mode

-- what a byte leads to if nothing is open: the lexemes that it ends, and the mode after it; none if the byte can't
-- stand there
abbrev pub open_at : ℕ → Option (List Lexeme × Mode)
open_at b =
    if is_word b then Some ([], InWord (b ∷ []))
    else (if is_space b then Some ([], Between)
    else (if is_mark b then Some (Mark b ∷ [], Between)
    else (if b == 34 then Some ([], InString [])
    else (if b == 35 then Some ([], InComment) else None))))

-- what a byte leads to in each mode
abbrev pub after : Mode → ℕ → Option (List Lexeme × Mode)
after Between b = open_at b
after (InWord w) b =
    if is_word b then Some ([], InWord (w ++ b ∷ []))
    else option_map (λ a. (Word w ∷ a.0, a.1)) (open_at b)
after (InString s) b =
    if b == 34 then Some (Quoted s ∷ [], Between)
    else (if b == 92 then Some ([], Escaped (s ++ b ∷ []))
    else (if nat_lt b 128 then Some ([], InString (s ++ b ∷ [])) else None))
after (Escaped s) b = if is_escape b then Some ([], InString (s ++ b ∷ [])) else None
after InComment b = if nat_lt b 128 then Some ([], InComment) else None

-- what the end of the line ends; it can't stand in a string
abbrev pub at_end : Mode → Option (List Lexeme)
at_end Between = Some []
at_end (InWord w) = Some (Word w ∷ [])
at_end (InString s) = None
at_end (Escaped s) = None
at_end InComment = Some []

-- the lexemes that a byte ends, and those of the bytes after it
abbrev pub followed_by : Option (List Lexeme × Mode) → (Mode → Option (List Lexeme)) → Option (List Lexeme)
followed_by None rest = None
followed_by (Some a) rest = option_map (λ ts. a.0 ++ ts) (rest a.1)

-- the lexemes of the bytes, read in such a mode
abbrev pub lexemes_from : List ℕ → Mode → Option (List Lexeme)
lexemes_from [] m = at_end m
lexemes_from (b ∷ bs) m = followed_by (after m b) (lexemes_from bs)

-- the lexemes of a line, if it is in the grammar
unfoldable pub lexemes : List ℕ → Option (List Lexeme)
lexemes line = lexemes_from line Between
