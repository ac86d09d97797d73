-- Lines that are read.
use Rattle.std.proofs.Common.{◌≡◌, ℕ, zero, suc, ◌+◌, ◌<◌, List, [], ◌∷◌, length, get_or, refl, ap, sym, subst, ◌∙◌, Option, Some, None, Result, Ok, Err, arith, rules, ⊎_elim, inr}
use Rattle.std.specs.Prelude.{IfErr, IsSome, map, unwrap_or}
use Rattle.std.specs.Str.Lines.{lines}
use denote.Ref.{Bor}
use Rattle.std.proofs.lemmas.List.{get_or-map, length-map}
use Rattle.rvm_text.specs.Lexemes.{Lexeme, lexemes}
use Rattle.rvm_asm.specs.declared.faults.LineError.{LineError}
use Rattle.rvm_asm.specs.declared.faults.LineError.TheVariants.{OutOfMemory, Faulty}
use Rattle.rvm_asm.specs.Values.{Names}
use Rattle.rvm_asm.specs.declared.error.AsmError.{AsmError}
use Rattle.rvm_asm.specs.Assembly.{AreRead, line_at}
use Rattle.rvm_asm.specs.Refusals.{IsError, IsErrorOf, IsReadError, error_at}
use Rattle.rvm_asm.specs.Views.{line_of, lines_of, texts_of, IsUnreadable, IsLaying}
use Rattle.rvm_asm.proofs.Laying.{below_or_at}

some_is : (o : Option (List Lexeme)) (x : List Lexeme) → o ≡ Some x → IsSome o
some_is None x e = cc
some_is (Some y) x e = search rules

-- a line with these lexemes
line_is : (text : List ℕ) (ts : List Lexeme) → lexemes text ≡ Some ts → ts ≡ line_of text
line_is text ts e = sym (ap (λ o. unwrap_or o []) e)

some_none : (o : Option (List Lexeme)) → IsSome o → o ≡ None → ⊥
some_none None s e = cc
some_none (Some x) s e = cc

some_line : (o : Option (List Lexeme)) → IsSome o → o ≡ Some (unwrap_or o [])
some_line None some = absurd (some_none None some refl)
some_line (Some x) some = refl

abbrev tail_of : {A : Type 0} → List A → List A
tail_of [] = []
tail_of (x ∷ xs) = xs

pub each_read : (ts : List (List ℕ)) (ls : List (List Lexeme)) → AreRead ts ls → (j : ℕ) → j < length ts → IsSome (lexemes (get_or ts j []))
each_read [] ls e j h = absurd (omega (arith, h))
each_read (t ∷ ts) [] e j h = cc
each_read (t ∷ ts) (l ∷ ls) e zero h = some_is (lexemes t) l (let f : lexemes t ≡ Some l = cc in f)
each_read (t ∷ ts) (l ∷ ls) e (suc j) h = each_read ts ls (ap tail_of e) j (omega (arith, h))

-- the line at an index is read
pub text_read : (texts : List (Bor (List ℕ))) (d : Bor (List ℕ)) (i : ℕ) → AreRead (texts_of texts) (lines_of (texts_of texts)) → i < length texts → IsSome (lexemes (get_or texts i d).now)
text_read texts d i read inside =
    subst (λ t. IsSome (lexemes t)) (get_or-map (λ (t : Bor (List ℕ)). t.now) texts i d [] inside)
    (each_read (texts_of texts) (lines_of (texts_of texts)) read i (omega (arith, inside, length-map texts (λ (t : Bor (List ℕ)). t.now))))

-- and this is it
pub text_at : (texts : List (Bor (List ℕ))) (d : Bor (List ℕ)) (i : ℕ) → i < length texts → line_of (get_or texts i d).now ≡ line_at (lines_of (texts_of texts)) i
text_at texts d i inside =
    sym (get_or-map line_of (texts_of texts) i [] [] (omega (arith, inside, length-map texts (λ (t : Bor (List ℕ)). t.now)))
    ∙ ap line_of (get_or-map (λ (t : Bor (List ℕ)). t.now) texts i d [] inside))

pub lines_count : (texts : List (Bor (List ℕ))) → length (lines_of (texts_of texts)) ≡ length texts
lines_count texts = length-map (texts_of texts) line_of ∙ length-map texts (λ (t : Bor (List ℕ)). t.now)

-- all lines before an index are read
abbrev pub ReadTo : List (Bor (List ℕ)) → ℕ → Type 0
ReadTo texts i = (j : ℕ) → j < i → IsSome (lexemes (get_or (texts_of texts) j []))

pub read_more : (texts : List (Bor (List ℕ))) (d : Bor (List ℕ)) (i : ℕ) (ts : List Lexeme) → ReadTo texts i → i < length texts → lexemes (get_or texts i d).now ≡ Some ts → ReadTo texts (i + 1)
read_more texts d i ts so_far inside e = λ j h. ⊎_elim
    (λ below. so_far j below)
    (λ same. rw same (subst (λ t. IsSome (lexemes t)) (sym (get_or-map (λ (t : Bor (List ℕ)). t.now) texts i d [] inside)) (some_is (lexemes (get_or texts i d).now) ts e)))
    (below_or_at j i h)

all_read : (ts : List (List ℕ)) → ((j : ℕ) → j < length ts → IsSome (lexemes (get_or ts j []))) → AreRead ts (lines_of ts)
all_read [] each = refl
all_read (t ∷ ts) each =
    ap (λ o. o ∷ map (λ x. lexemes x) ts) (some_line (lexemes t) (each 0 (omega arith)))
    ∙ ap (λ os. Some (line_of t) ∷ os) (all_read ts (λ j h. each (suc j) (omega (arith, h))))

pub read_all : (texts : List (Bor (List ℕ))) (i : ℕ) → ReadTo texts i → i ≡ length texts → AreRead (texts_of texts) (lines_of (texts_of texts))
read_all texts i so_far e = all_read (texts_of texts) (λ j h. so_far j (omega (arith, h, e, length-map texts (λ (t : Bor (List ℕ)). t.now))))

-- the first line that can't be read
pub unread : (texts : List (Bor (List ℕ))) (d : Bor (List ℕ)) (i : ℕ) (e : LineError) → ReadTo texts i → i < length texts → IsUnreadable (get_or texts i d).now e → IsReadError (texts_of texts) (error_at (i + 1) e)
unread texts d i OutOfMemory so_far inside h = tt
unread texts d i (Faulty f) so_far inside h =
    (i, refl, (omega (arith, inside, length-map texts (λ (t : Bor (List ℕ)). t.now)), h.0, ap lexemes (get_or-map (λ (t : Bor (List ℕ)). t.now) texts i d [] inside) ∙ h.1, so_far))

-- a line is laid out by its lexemes
pub laid_text : (old new : Names) (place : ℕ) (text : List ℕ) (ts : List Lexeme) (r : Result ℕ LineError) → lexemes text ≡ Some ts → IsLaying old new place ts r → IsLaying old new place (line_of text) r
laid_text old new place text ts r e laid = subst (λ l. IsLaying old new place l r) (line_is text ts e) laid

pub unread_laid : (old new : Names) (place : ℕ) (text : List ℕ) (e : LineError) → IsSome (lexemes text) → IsUnreadable text e → IsLaying old new place (line_of text) (Err e)
unread_laid old new place text OutOfMemory some h = tt
unread_laid old new place text (Faulty f) some h = absurd (some_none (lexemes text) some h.1)

pub ruleset texts_laid = (laid_text, unread_laid)

-- a fault of the lines is one of their text
pub text_refused : {T : Type 0} (text : List ℕ) (texts : List (Bor (List ℕ))) (r : Result T AsmError)
    → map (λ x. x.now) texts ≡ lines text → AreRead (texts_of texts) (lines_of (texts_of texts))
    → IfErr r (λ e. IsErrorOf (lines_of (texts_of texts)) e) → IfErr r (λ e. IsError text e)
text_refused text texts (Ok v) same read fault = tt
text_refused text texts (Err e) same read fault =
    inr (lines_of (texts_of texts), subst (λ all. AreRead all (lines_of (texts_of texts))) same read, fault)
