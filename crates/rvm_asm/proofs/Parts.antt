-- Lists of values, a part at a time.
use Rattle.std.proofs.Common.{◌≡◌, ℕ, ◌+◌, ◌-◌, length-drop, ◌<◌, ◌≤◌, List, [], ◌∷◌, ◌++◌, length, get_or, take, drop, refl, ap, sym, ◌∙◌, arith, append_assoc, Result, Ok, Err, Bool, true, false}
use Rattle.std.specs.Prelude.{if◌then◌else◌}
use Rattle.std.proofs.lemmas.List.{take_more, drop_more, append-nil, map_push, drop_all, take_all}
use Rattle.rvm_text.specs.declared.token.Token.{Token}
use Rattle.rvm_text.specs.Lexemes.{Lexeme}
use Rattle.rvm_text.specs.Tokens.{lexeme_of, lexemes_of}
use Rattle.rvm_asm.specs.declared.faults.Fault.{Fault}
use Rattle.rvm_asm.specs.declared.statements.Width.{Width}
use Rattle.rvm_asm.specs.Contents.{value_of_width, value_bytes, list_bytes}
use Rattle.rvm_asm.specs.Reading.{◌>>=◌, is_comma, at_head, parts}
use Rattle.rvm_asm.specs.Values.{Names}

-- bytes before others, unless there is a fault
abbrev pub before : List ℕ → Result (List ℕ) Fault → Result (List ℕ) Fault
before bs (Ok more) = Ok (bs ++ more)
before bs (Err e) = Err e

before_twice : (xs ys : List ℕ) (r : Result (List ℕ) Fault) → before (xs ++ ys) r ≡ before xs (r >>= λ more. Ok (ys ++ more))
before_twice xs ys (Ok more) = ap Ok (append_assoc xs ys more)
before_twice xs ys (Err e) = refl

-- a value more
pub value_more : (names : Names) (width : Width) (bs : List ℕ) (p : List Lexeme) (ps : List (List Lexeme)) (v : ℕ) → Ok v ≡ value_of_width names width p →
    before (bs ++ value_bytes width v) (list_bytes names width ps) ≡ before bs (list_bytes names width (p ∷ ps))
unfolding list_bytes
value_more names width bs p ps v e =
    before_twice bs (value_bytes width v) (list_bytes names width ps)
    ∙ ap (λ r. before bs (r >>= λ x. list_bytes names width ps >>= λ more. Ok (value_bytes width x ++ more))) e

-- a part without a value
pub no_value : (names : Names) (width : Width) (bs : List ℕ) (p : List Lexeme) (ps : List (List Lexeme)) (f : Fault) → Err f ≡ value_of_width names width p →
    before bs (list_bytes names width (p ∷ ps)) ≡ Err f
unfolding list_bytes
no_value names width bs p ps f e =
    sym (ap (λ r. before bs (r >>= λ x. list_bytes names width ps >>= λ more. Ok (value_bytes width x ++ more))) e)

-- no part is left
pub no_part : (names : Names) (width : Width) (bs : List ℕ) → before bs (list_bytes names width []) ≡ Ok bs
unfolding list_bytes
no_part names width bs = ap Ok (append-nil bs)

before_none : (r : Result (List ℕ) Fault) → before [] r ≡ r
before_none (Ok x) = refl
before_none (Err e) = refl

-- no byte is made yet
pub no_bytes : (r : Result (List ℕ) Fault) → before [] r ≡ r
no_bytes r = before_none r

pub ruleset turns = (value_more, no_value, no_part, no_bytes)

-- lexemes at the head of the first part
abbrev pub all_at_head : List Lexeme → List (List Lexeme) → List (List Lexeme)
all_at_head xs [] = xs ∷ []
all_at_head xs (p ∷ ps) = (xs ++ p) ∷ ps

at_heads : (xs : List Lexeme) (t : Lexeme) (ps : List (List Lexeme)) → all_at_head (xs ++ t ∷ []) ps ≡ all_at_head xs (at_head t ps)
at_heads xs t [] = refl
at_heads xs t (p ∷ ps) = ap (λ y. y ∷ ps) (append_assoc xs (t ∷ []) p)

parts_some : (ts : List Lexeme) → all_at_head [] (parts ts) ≡ parts ts
unfolding parts
parts_some [] = refl
parts_some (t ∷ ts) = chosen (is_comma t) t (parts ts)
  where
    chosen : (b : Bool) (t : Lexeme) (ps : List (List Lexeme)) → all_at_head [] (if b then [] ∷ ps else at_head t ps) ≡ (if b then [] ∷ ps else at_head t ps)
    chosen true t ps = refl
    chosen false t [] = refl
    chosen false t (p ∷ ps) = refl

-- no token is read yet
pub no_token : (ts : List Token) → all_at_head (lexemes_of (take 0 ts)) (parts (lexemes_of (drop 0 ts))) ≡ parts (lexemes_of ts)
no_token ts = parts_some (lexemes_of ts)

-- a token that is no comma
pub token_more : (ts : List Token) (at : ℕ) (d : Token) → at < length ts → is_comma (lexeme_of (get_or ts at d)) ≡ false →
    all_at_head (lexemes_of (take (at + 1) ts)) (parts (lexemes_of (drop (at + 1) ts))) ≡ all_at_head (lexemes_of (take at ts)) (parts (lexemes_of (drop at ts)))
unfolding parts
token_more ts at d inside plain =
    let t = get_or ts at d in
    ap (λ l. all_at_head (lexemes_of l) (parts (lexemes_of (drop (at + 1) ts)))) (take_more ts at d inside)
    ∙ ap (λ l. all_at_head l (parts (lexemes_of (drop (at + 1) ts)))) (map_push lexeme_of (take at ts) t)
    ∙ at_heads (lexemes_of (take at ts)) (lexeme_of t) (parts (lexemes_of (drop (at + 1) ts)))
    ∙ sym (ap (λ l. all_at_head (lexemes_of (take at ts)) (parts (lexemes_of l))) (drop_more ts at d inside)
    ∙ ap (λ b. all_at_head (lexemes_of (take at ts)) (if b then [] ∷ parts (lexemes_of (drop (at + 1) ts)) else at_head (lexeme_of t) (parts (lexemes_of (drop (at + 1) ts))))) plain)

-- what is after a place
pub rest_is : (ts : List Token) (n : ℕ) → take (length ts - n) (drop n ts) ≡ drop n ts
rest_is ts n = take_all (length ts - n) (drop n ts) (omega (arith, length-drop n ts))

-- a comma
pub comma_at : (ts : List Token) (at : ℕ) (d : Token) → at < length ts → is_comma (lexeme_of (get_or ts at d)) ≡ true →
    all_at_head (lexemes_of (take at ts)) (parts (lexemes_of (drop at ts))) ≡ lexemes_of (take at ts) ∷ parts (lexemes_of (take (length ts - (at + 1)) (drop (at + 1) ts)))
unfolding parts
comma_at ts at d inside comma =
    let t = get_or ts at d in
    ap (λ l. all_at_head (lexemes_of (take at ts)) (parts (lexemes_of l))) (drop_more ts at d inside)
    ∙ ap (λ b. all_at_head (lexemes_of (take at ts)) (if b then [] ∷ parts (lexemes_of (drop (at + 1) ts)) else at_head (lexeme_of t) (parts (lexemes_of (drop (at + 1) ts))))) comma
    ∙ ap (λ l. l ∷ parts (lexemes_of (drop (at + 1) ts))) (append-nil (lexemes_of (take at ts)))
    ∙ ap (λ l. lexemes_of (take at ts) ∷ parts (lexemes_of l)) (sym (rest_is ts (at + 1)))

-- no comma
pub no_comma : (ts : List Token) (at : ℕ) → length ts ≤ at → all_at_head (lexemes_of (take at ts)) (parts (lexemes_of (drop at ts))) ≡ lexemes_of ts ∷ []
unfolding parts
no_comma ts at past =
    ap (λ l. all_at_head (lexemes_of (take at ts)) (parts (lexemes_of l))) (drop_all at ts past)
    ∙ ap (λ l. l ∷ []) (append-nil (lexemes_of (take at ts)) ∙ ap lexemes_of (take_all at ts past))

pub ruleset steps = (no_token, no_comma)
