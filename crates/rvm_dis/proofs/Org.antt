-- A line that gives the next one its address.
use Rattle.std.proofs.Common.{◌≡◌, ℕ, ◌^◌, ◌<◌, List, [], ◌∷◌, None, Ok, refl}
use Rattle.std.specs.Prelude.{codes}
use Rattle.rvm_text.specs.Lexemes.{Lexeme, Word}
use Rattle.rvm_asm.specs.Contents.{bytes_at}
use Rattle.rvm_asm.specs.Grammar.{grammar_at}
use Rattle.rvm_asm.specs.Statements.{keyword_of, directives, next_place, equ_at}
use Rattle.rvm_asm.specs.Values.{Names}
use Rattle.rvm_dis.specs.Pieces.{hex}
use Rattle.rvm_dis.proofs.Numbers.{hex_word}
use Rattle.rvm_dis.proofs.Operands.{word_last, word_is_last}
use Rattle.rvm_dis.proofs.Reading.{Reads, word, blank, last_word}
use Rattle.rvm_dis.specs.Reassembly.{org_line}

abbrev pub org_lexemes : (a : ℕ) → List Lexeme
org_lexemes a = Word (codes ".org") ∷ Word (hex 8 a) ∷ []

pub org_reads : (a : ℕ) → Reads (org_line a) (org_lexemes a)
org_reads a = word (codes ".org") refl (blank (last_word (hex 8 a) (hex_word 8 a))) refl

-- wherever the line stands, and whatever values names have
module _ (names : Names) (place a : ℕ) (below : a < 2 ^ 32) where
  pub org_next : next_place names place (org_lexemes a) ≡ Ok a
  unfolding keyword_of directives grammar_at
  org_next = rw (word_is_last a below, word_last names a below) refl

  pub org_undefining : equ_at names (org_lexemes a) ≡ Ok None
  unfolding keyword_of directives grammar_at
  org_undefining = rw (word_is_last a below) refl

  pub org_bytes : bytes_at names place (org_lexemes a) ≡ Ok []
  unfolding keyword_of directives grammar_at
  org_bytes = rw (word_is_last a below) refl
