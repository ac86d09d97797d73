-- Commas among tokens and among lexemes.
use Rattle.std.proofs.Common.{◌≡◌, ℕ, List, [], ◌∷◌, refl, cond, ◌+◌}
use Rattle.std.specs.Prelude.{count_by, fold}
use Rattle.rvm_text.specs.declared.token.Token.{Token}
use Rattle.rvm_text.specs.Tokens.{lexeme_of, lexemes_of}
use Rattle.rvm_asm.specs.Reading.{is_comma}

fold_lexemes : (ts : List Token) (n : ℕ) →
    fold (λ a t. a + cond (is_comma (lexeme_of t)) 1 0) n ts ≡ fold (λ a t. a + cond (is_comma t) 1 0) n (lexemes_of ts)
fold_lexemes [] n = refl
fold_lexemes (t ∷ ts) n = fold_lexemes ts (n + cond (is_comma (lexeme_of t)) 1 0)

-- as many tokens are commas as lexemes
pub count_lexemes : (ts : List Token) → count_by (λ t. is_comma (lexeme_of t)) ts ≡ count_by is_comma (lexemes_of ts)
count_lexemes ts = fold_lexemes ts 0

pub ruleset commas = (count_lexemes)
