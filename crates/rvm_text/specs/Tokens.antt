-- What the code's tokens stand for.
use Rattle.std.specs.Prelude.{◌≡◌, ℕ, ◌+◌, ◌≤◌, Bool, not, List, [], ◌∷◌, ◌++◌, slice_range, map, Option, Some, option_map}
use Rattle.rvm_text.specs.declared.token.Token.{Token}
use Rattle.rvm_text.specs.declared.token.Token.TheVariants as token
use Rattle.rvm_text.specs.declared.token.TextError.{TextError}
use Rattle.rvm_text.specs.declared.token.TextError.TheVariants as error
use Rattle.rvm_text.specs.declared.token.Mode.{Mode}
use Rattle.rvm_text.specs.declared.token.Mode.TheVariants as mode
use Rattle.rvm_text.specs.Bytes.{is_digit}
use Rattle.rvm_text.specs.Lexemes as grammar
use Rattle.std.specs.Prelude.{None, false}

-- the lexeme of a token, without where it lies in memory
abbrev pub lexeme_of : Token → grammar.Lexeme
lexeme_of (token.Word bytes) = grammar.Word bytes.now
lexeme_of (token.Mark b) = grammar.Mark b
lexeme_of (token.Quoted bytes) = grammar.Quoted bytes.now

-- the lexemes of tokens
abbrev pub lexemes_of : List Token → List grammar.Lexeme
lexemes_of ts = map lexeme_of ts

-- why a line has no tokens: it is not in the grammar, or memory ran out
abbrev pub IsTextError : ℕ → List ℕ → TextError → Type 0
IsTextError number line error.OutOfMemory = Unit {0}
IsTextError number line (error.BadToken n) = (n ≡ number) × (grammar.lexemes line ≡ None)

-- whether a word is a name: it has a byte and does not begin with a digit
abbrev pub is_name : List ℕ → Bool
is_name [] = false
is_name (b ∷ bs) = not (is_digit b)

-- The code's own steps.

-- the code's mode, with the bytes of what is open
abbrev pub mode_of : List ℕ → ℕ → Mode → grammar.Mode
mode_of line at mode.Between = grammar.Between
mode_of line at (mode.Word from) = grammar.InWord (slice_range line from at)
mode_of line at (mode.Quoted from) = grammar.InString (slice_range line from at)
mode_of line at (mode.Escaped from) = grammar.Escaped (slice_range line from at)
mode_of line at mode.Comment = grammar.InComment

-- what is open began at this place or before it
abbrev pub IsBegun : ℕ → Mode → Type 0
IsBegun at mode.Between = Unit {0}
IsBegun at (mode.Word from) = from ≤ at
IsBegun at (mode.Quoted from) = from ≤ at
IsBegun at (mode.Escaped from) = from ≤ at
IsBegun at mode.Comment = Unit {0}

-- the lexemes of a step, after those of the tokens
abbrev pub behind : List Token → List grammar.Lexeme × grammar.Mode → List grammar.Lexeme × grammar.Mode
behind ts a = (lexemes_of ts ++ a.0, a.1)

-- the byte at a place ends these lexemes, which join the tokens, and leads to this mode
pub record Moves (line : List ℕ) (at : ℕ) (step : Option (List grammar.Lexeme × grammar.Mode)) (old new : List Token) (m : Mode) : Type 0 where
  pub lexemes : option_map (behind old) step ≡ Some (lexemes_of new, mode_of line (at + 1) m)
  pub begun : IsBegun (at + 1) m

-- a lexeme joins the tokens
abbrev pub Adds : grammar.Lexeme → (old new : List Token) → Type 0
Adds x old new = lexemes_of new ≡ lexemes_of old ++ x ∷ []
