-- An expression by what it begins with.
use Rattle.std.proofs.Common.{◌≡◌, ℕ, zero, suc, ◌+◌, ◌*◌, ◌-◌, ◌<◌, ◌≤◌, List, [], ◌∷◌, length, take, drop, refl, ap, sym, ◌∙◌, arith, add-one, Option, Some, None, Result, Ok, Err, Bool, true, false}
use Rattle.std.proofs.lemmas.List.{drop-map, drop-drop, length-map}
use Rattle.std.specs.Prelude.{if◌then◌else◌, option_map, ◌&&◌, ◌==◌}
use Rattle.rvm_text.specs.Lexemes.{Lexeme, Word, Mark, Quoted}
use Rattle.rvm_text.specs.Tokens.{lexeme_of, lexemes_of}
use Rattle.rvm_text.specs.declared.token.Token.{Token}
use Rattle.rvm_asm.proofs.Parts.{rest_is}
use Rattle.rvm_asm.specs.declared.faults.Fault.{Fault}
use Rattle.rvm_asm.specs.declared.values.Half.{Half}
use Rattle.rvm_asm.specs.Reading.{◌>>=◌}
use Rattle.rvm_asm.specs.Values.{Names, value_at, simple_at, half_at, half_named, chosen, closed, in_half, in_halves}

some_injective : {x y : Half × List Lexeme} → Some x ≡ Some y → x ≡ y
some_injective e = cc

inner_is : (b : Bool) (o : Option Half) (ts inner : List Lexeme) (h : Half) → (if b then option_map {U = Half × List Lexeme} (λ x. (x, ts)) o else None) ≡ Some (h, inner) → ts ≡ inner
inner_is true None ts inner h e = cc
inner_is true (Some x) ts inner h e = ap (λ (p : Half × List Lexeme). p.1) (some_injective {x = (x, ts)} {y = (h, inner)} e)
inner_is false o ts inner h e = cc

-- an expression that begins with a half
pub half_first : (names : Names) (ts : List Lexeme) (h : Half) (inner : List Lexeme) → half_at ts ≡ Some (h, inner) → value_at names ts ≡ (value_at names inner >>= closed h)
unfolding value_at
half_first names [] h inner e = cc
half_first names (Word w ∷ ts) h inner e = cc
half_first names (Quoted w ∷ ts) h inner e = cc
half_first names (Mark m ∷ []) h inner e = cc
half_first names (Mark m ∷ Mark n ∷ ts) h inner e = cc
half_first names (Mark m ∷ Quoted s ∷ ts) h inner e = cc
half_first names (Mark m ∷ Word w ∷ []) h inner e = cc
half_first names (Mark m ∷ Word w ∷ Word v ∷ ts) h inner e = cc
half_first names (Mark m ∷ Word w ∷ Quoted v ∷ ts) h inner e = cc
half_first names (Mark m ∷ Word w ∷ Mark p ∷ ts) h inner e =
    ap (λ o. chosen o (λ x. value_at names ts >>= closed x.0) (simple_at names (Mark m ∷ Word w ∷ Mark p ∷ ts))) e
    ∙ ap (λ t. value_at names t >>= closed h) (inner_is (m == 37 && p == 40) (half_named w) ts inner h e)

-- and one that does not
pub no_half_first : (names : Names) (ts : List Lexeme) → half_at ts ≡ None → value_at names ts ≡ simple_at names ts
unfolding value_at
no_half_first names [] e = refl
no_half_first names (Word w ∷ ts) e = refl
no_half_first names (Quoted w ∷ ts) e = refl
no_half_first names (Mark m ∷ []) e = refl
no_half_first names (Mark m ∷ Mark n ∷ ts) e = refl
no_half_first names (Mark m ∷ Quoted s ∷ ts) e = refl
no_half_first names (Mark m ∷ Word w ∷ []) e = refl
no_half_first names (Mark m ∷ Word w ∷ Word v ∷ ts) e = refl
no_half_first names (Mark m ∷ Word w ∷ Quoted v ∷ ts) e = refl
no_half_first names (Mark m ∷ Word w ∷ Mark p ∷ ts) e =
    ap (λ o. chosen o (λ x. value_at names ts >>= closed x.0) (simple_at names (Mark m ∷ Word w ∷ Mark p ∷ ts))) e

-- what is after the beginning of a half
inner_behind : (ts : List Lexeme) (h : Half) (inner : List Lexeme) → half_at ts ≡ Some (h, inner) → inner ≡ drop 3 ts
inner_behind [] h inner e = cc
inner_behind (Word w ∷ ts) h inner e = cc
inner_behind (Quoted w ∷ ts) h inner e = cc
inner_behind (Mark m ∷ []) h inner e = cc
inner_behind (Mark m ∷ Mark n ∷ ts) h inner e = cc
inner_behind (Mark m ∷ Quoted s ∷ ts) h inner e = cc
inner_behind (Mark m ∷ Word w ∷ []) h inner e = cc
inner_behind (Mark m ∷ Word w ∷ Word v ∷ ts) h inner e = cc
inner_behind (Mark m ∷ Word w ∷ Quoted v ∷ ts) h inner e = cc
inner_behind (Mark m ∷ Word w ∷ Mark p ∷ ts) h inner e = sym (inner_is (m == 37 && p == 40) (half_named w) ts inner h e)

inner_shorter : (ts : List Lexeme) (h : Half) (inner : List Lexeme) → half_at ts ≡ Some (h, inner) → suc (suc (suc (length inner))) ≡ length ts
inner_shorter [] h inner e = cc
inner_shorter (Word w ∷ ts) h inner e = cc
inner_shorter (Quoted w ∷ ts) h inner e = cc
inner_shorter (Mark m ∷ []) h inner e = cc
inner_shorter (Mark m ∷ Mark n ∷ ts) h inner e = cc
inner_shorter (Mark m ∷ Quoted s ∷ ts) h inner e = cc
inner_shorter (Mark m ∷ Word w ∷ []) h inner e = cc
inner_shorter (Mark m ∷ Word w ∷ Word v ∷ ts) h inner e = cc
inner_shorter (Mark m ∷ Word w ∷ Quoted v ∷ ts) h inner e = cc
inner_shorter (Mark m ∷ Word w ∷ Mark p ∷ ts) h inner e =
    let same : ts ≡ inner = inner_is (m == 37 && p == 40) (half_named w) ts inner h e in
    ap (λ l. length (Mark m ∷ Word w ∷ Mark p ∷ l)) (sym same)

-- this many halves have begun, and these are left
pub record Opened (ts : List Lexeme) (depth : ℕ) (left : List Lexeme) : Type 0 where
  pub value : (names : Names) → value_at names ts ≡ in_halves ts depth (value_at names left)
  pub behind : left ≡ drop (3 * depth) ts
  pub within : 3 * depth + length left ≡ length ts

pub none_opened : (ts : List Lexeme) → Opened ts 0 ts
unfolding in_halves
none_opened ts = record { value = λ names. refl; behind = refl; within = omega arith }

-- the value in one half more
one_inner : (ts : List Lexeme) (n : ℕ) (v : Result (ℕ × List Lexeme) Fault) → in_halves ts (n + 1) v ≡ in_halves ts n (v >>= in_half (drop (3 * n) ts))
unfolding in_halves
one_inner ts n v = ap (λ k. in_halves ts k v) (add-one n)

pub one_opened : (ts : List Lexeme) (depth : ℕ) (left : List Lexeme) (h : Half) (inner : List Lexeme) → Opened ts depth left → half_at left ≡ Some (h, inner) → Opened ts (depth + 1) inner
one_opened ts depth left h inner o e = record {
  value = λ names. o.value names ∙ ap (in_halves ts depth) (half_first names left h inner e)
      ∙ sym (one_inner ts depth (value_at names inner) ∙ ap (λ l. in_halves ts depth (value_at names inner >>= in_half l)) (sym o.behind)
      ∙ ap (λ x. in_halves ts depth (value_at names inner >>= λ v. chosen x (λ y. closed y.0 v) (Ok v))) e);
  behind = inner_behind left h inner e ∙ ap (drop 3) o.behind ∙ drop-drop 3 (3 * depth) ts ∙ ap (λ n. drop n ts) (omega arith);
  within = omega (arith, o.within, inner_shorter left h inner e);
}

-- all halves have begun
pub all_opened : (ts : List Lexeme) (depth : ℕ) (left : List Lexeme) → Opened ts depth left → half_at left ≡ None → (names : Names) → value_at names ts ≡ in_halves ts depth (simple_at names left)
all_opened ts depth left o e names = o.value names ∙ ap (in_halves ts depth) (no_half_first names left e)

pub opened_within : (ts : List Token) (depth : ℕ) (left : List Lexeme) → Opened (lexemes_of ts) depth left → 3 * depth ≤ length ts
opened_within ts depth left o = omega (arith, o.within, length-map ts lexeme_of)

pub ruleset openings = (all_opened, opened_within)

-- a fault in halves
pub fault_in_halves : (ts : List Lexeme) (depth : ℕ) (f : Fault) → in_halves ts depth (Err f) ≡ Err f
unfolding in_halves
fault_in_halves ts zero f = refl
fault_in_halves ts (suc n) f = fault_in_halves ts n f

half_of_rest : (ts : List Token) (n : ℕ) (v : ℕ × List Lexeme) → in_half (lexemes_of (take (length ts - 3 * n) (drop (3 * n) ts))) v ≡ in_half (drop (3 * n) (lexemes_of ts)) v
half_of_rest ts n v = ap (λ l. in_half (lexemes_of l) v) (rest_is ts (3 * n)) ∙ ap (λ l. in_half l v) (sym (drop-map lexeme_of (3 * n) ts))

-- one half more is closed
pub one_closed : (ts : List Token) (n : ℕ) (v w : ℕ × List Lexeme) → 0 < n → Ok w ≡ in_half (lexemes_of (take (length ts - 3 * (n - 1)) (drop (3 * (n - 1)) ts))) v → in_halves (lexemes_of ts) (n - 1) (Ok w) ≡ in_halves (lexemes_of ts) n (Ok v)
one_closed ts n v w some e =
    ap (in_halves (lexemes_of ts) (n - 1)) (e ∙ half_of_rest ts (n - 1) v)
    ∙ sym (one_inner (lexemes_of ts) (n - 1) (Ok v))
    ∙ ap (λ k. in_halves (lexemes_of ts) k (Ok v)) (omega (arith, some))

-- one half is not closed
pub none_closed : (ts : List Token) (n : ℕ) (v : ℕ × List Lexeme) (f : Fault) → 0 < n → Err f ≡ in_half (lexemes_of (take (length ts - 3 * (n - 1)) (drop (3 * (n - 1)) ts))) v → in_halves (lexemes_of ts) n (Ok v) ≡ Err f
none_closed ts n v f some e =
    ap (λ k. in_halves (lexemes_of ts) k (Ok v)) (omega (arith, some))
    ∙ one_inner (lexemes_of ts) (n - 1) (Ok v)
    ∙ sym (ap (in_halves (lexemes_of ts) (n - 1)) (e ∙ half_of_rest ts (n - 1) v))
    ∙ fault_in_halves (lexemes_of ts) (n - 1) f

-- all halves are closed
pub all_closed : (ts : List Lexeme) (n : ℕ) (v : Result (ℕ × List Lexeme) Fault) → n ≤ 0 → in_halves ts n v ≡ v
unfolding in_halves
all_closed ts n v none = let same : n ≡ 0 = omega (arith, none) in ap (λ k. in_halves ts k v) same

pub ruleset closings = (one_closed, none_closed)
