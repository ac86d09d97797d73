-- Consecutive operands, by their shapes.
use Rattle.std.proofs.Common.{◌≡◌, ℕ, ◌+◌, ◌<◌, List, length, get_or, drop, ap, sym, ◌∙◌, Err}
use Rattle.std.proofs.lemmas.List.{drop_more}
use Rattle.rvm_text.specs.Lexemes.{Lexeme}
use Rattle.rvm_asm.specs.declared.faults.Fault.{Fault}
use Rattle.rvm_asm.specs.declared.grammar.Operand.{Operand}
use Rattle.rvm_asm.specs.declared.grammar.Operand.TheVariants.{Register}
use Rattle.rvm_asm.specs.Grammar.{behind, more_operands_at}
use Rattle.rvm_asm.specs.Reading.{◌>>=◌, mark_at}

-- an operand is left, and no comma is there
pub no_comma : (os : List Operand) (i : ℕ) (ts : List Lexeme) (e : Fault) → i < length os → Err e ≡ mark_at 44 ts → more_operands_at (drop i os) ts ≡ Err e
unfolding more_operands_at
no_comma os i ts e inside none =
    ap (λ l. more_operands_at l ts) (drop_more os i Register inside)
    ∙ sym (ap (λ r. r >>= behind (get_or os i Register) >>= more_operands_at (drop (i + 1) os)) none)
