-- A text as a line of assembly that stands for a word.
use Rattle.std.specs.Prelude.{◌≡◌, ℕ, ◌+◌, List, ◌∷◌, ◌++◌, Some, None, Ok, codes}
use Rattle.std.specs.Int.{to_le_bytes, w32}
use Rattle.std.specs.Str.Lines.{lines}
use Rattle.rvm_text.specs.Lexemes as grammar
use Rattle.rvm_asm.specs.Contents.{bytes_at}
use Rattle.rvm_asm.specs.Statements.{label_of, next_place, equ_at}
use Rattle.rvm_asm.specs.Values.{Names}

-- a text at a place is one line, whatever follows it, and is in the grammar; it has no label and defines no name, makes
-- the four bytes of a word, the lowest first, and the next line stands after them, whatever values names have
pub record Assembles (names : Names) (place word : ℕ) (text : List ℕ) : Type 0 where
  pub one_line : (rest : List ℕ) → lines (text ++ codes "\n" ++ rest) ≡ text ∷ lines rest
  pub lexemes : List grammar.Lexeme
  pub read : grammar.lexemes text ≡ Some lexemes
  pub unlabelled : label_of place lexemes ≡ (None, lexemes)
  pub undefining : equ_at names lexemes ≡ Ok None
  pub next : next_place names place lexemes ≡ Ok (place + 4)
  pub bytes : bytes_at names place lexemes ≡ Ok (to_le_bytes w32 word)
