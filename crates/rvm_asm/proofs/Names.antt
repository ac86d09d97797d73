-- What is read under names that grow.
use Rattle.std.proofs.Common.{◌≡◌, ℕ, ◌^◌, List, [], ◌∷◌, refl, ap, sym, ◌∙◌, Option, Some, None, Result, Ok, Err, Bool, true, false, cond}
use Rattle.std.specs.Prelude.{if◌then◌else◌, nat_le}
use Rattle.std.specs.Str.{bytes_eq}
use Rattle.std.proofs.lemmas.Slice.Eq.{bytes_eq-Decides}
use Rattle.rvm_text.specs.Lexemes.{Lexeme, Word, Mark, Quoted}
use Rattle.rvm_text.specs.Tokens.{is_name}
use Rattle.rvm_asm.specs.declared.faults.Fault.{Fault}
use Rattle.rvm_asm.specs.declared.faults.Fault.TheVariants.{UnknownName, OutOfReach}
use Rattle.rvm_asm.specs.declared.statements.Keyword.{Keyword}
use Rattle.rvm_asm.specs.declared.statements.Keyword.TheVariants as k
use Rattle.rvm_asm.specs.declared.statements.Code.{Code}
use Rattle.rvm_asm.specs.declared.statements.Code.TheVariants as c
use Rattle.rvm_asm.specs.declared.values.Half.{Half}
use Rattle.rvm_asm.specs.Reading.{◌>>=◌, known, only_if, ended, register_comma}
use Rattle.rvm_asm.specs.Values.{Names, value_at, simple_at, sum_at, number_at, last_value, half_at, chosen, closed}
use Rattle.rvm_asm.specs.Instructions.{li_at, li_size}
use Rattle.rvm_asm.specs.Statements.{Definition, space_at, balign_at, is_alignment, padding, advanced, size_of, place_after, next_place, statement_at}
use Rattle.rvm_asm.specs.Assembly.{Takes}

same_bytes : (xs ys : List ℕ) → bytes_eq xs ys ≡ true → xs ≡ ys
same_bytes xs ys h = (bytes_eq-Decides xs ys).0 h

-- each name that had a value keeps it
abbrev pub Kept : Names → Names → Type 0
Kept old new = (n : List ℕ) (v : ℕ) → old n ≡ Some v → new n ≡ Some v

takes_kept : (old new : Names) (d : List ℕ × ℕ) → old d.0 ≡ None → (n : List ℕ) (v : ℕ) → old n ≡ Some v → (b : Bool) → bytes_eq d.0 n ≡ b → cond b (Some d.1) (old n) ≡ Some v
takes_kept old new d fresh n v e true p = absurd (let f : None ≡ Some v = sym fresh ∙ ap old (same_bytes _ _ p) ∙ e in cc)
takes_kept old new d fresh n v e false p = e

pub kept_by : (old new : Names) (d : Option Definition) → Takes old new d → Kept old new
kept_by old new None h n v e = h n ∙ e
kept_by old new (Some d) h n v e = h.1 n ∙ takes_kept old new d h.0 n v e _ refl

bind_kept : {A B : Type 0} (r s : Result A Fault) (f g : A → Result B Fault) (y : B) → ((x : A) → r ≡ Ok x → s ≡ Ok x) → ((x : A) → f x ≡ Ok y → g x ≡ Ok y) → (r >>= f) ≡ Ok y → (s >>= g) ≡ Ok y
bind_kept (Ok x) s f g y h k e = ap (λ t. t >>= g) (h x refl) ∙ k x e
bind_kept (Err x) s f g y h k e = cc

known_kept : (o p : Option ℕ) → ((v : ℕ) → o ≡ Some v → p ≡ Some v) → (v : ℕ) → known UnknownName o ≡ Ok v → known UnknownName p ≡ Ok v
known_kept None p h v e = cc
known_kept (Some w) p h v e = ap (known UnknownName) (h w refl) ∙ e

module _ (old new : Names) (kept : Kept old new) where
  name_kept : (b : Bool) (w : List ℕ) (ts : List Lexeme) (y : ℕ × List Lexeme) → (if b then (known UnknownName (old w) >>= λ v. sum_at v ts) else number_at (Word w ∷ ts)) ≡ Ok y → (if b then (known UnknownName (new w) >>= λ v. sum_at v ts) else number_at (Word w ∷ ts)) ≡ Ok y
  name_kept true w ts y e = bind_kept (known UnknownName (old w)) (known UnknownName (new w)) (λ v. sum_at v ts) (λ v. sum_at v ts) y (known_kept (old w) (new w) (kept w)) (λ x h. h) e
  name_kept false w ts y e = e

  simple_kept : (ts : List Lexeme) (y : ℕ × List Lexeme) → simple_at old ts ≡ Ok y → simple_at new ts ≡ Ok y
  simple_kept [] y e = e
  simple_kept (Word w ∷ ts) y e = name_kept (is_name w) w ts y e
  simple_kept (Mark m ∷ ts) y e = e
  simple_kept (Quoted s ∷ ts) y e = e

  half_kept : (o : Option (Half × List Lexeme)) (ts inner : List Lexeme) (y : ℕ × List Lexeme) → ((z : ℕ × List Lexeme) → value_at old inner ≡ Ok z → value_at new inner ≡ Ok z) → chosen o (λ h. value_at old inner >>= closed h.0) (simple_at old ts) ≡ Ok y → chosen o (λ h. value_at new inner >>= closed h.0) (simple_at new ts) ≡ Ok y
  half_kept None ts inner y f e = simple_kept ts y e
  half_kept (Some h) ts inner y f e = bind_kept (value_at old inner) (value_at new inner) (closed h.0) (closed h.0) y f (λ x g. g) e

  pub value_kept : (ts : List Lexeme) (y : ℕ × List Lexeme) → value_at old ts ≡ Ok y → value_at new ts ≡ Ok y
  unfolding value_at
  value_kept [] y e = e
  value_kept (Word w ∷ ts) y e = simple_kept (Word w ∷ ts) y e
  value_kept (Quoted s ∷ ts) y e = e
  value_kept (Mark m ∷ []) y e = e
  value_kept (Mark m ∷ Mark n ∷ ts) y e = e
  value_kept (Mark m ∷ Quoted s ∷ ts) y e = e
  value_kept (Mark m ∷ Word w ∷ []) y e = e
  value_kept (Mark m ∷ Word w ∷ Word v ∷ ts) y e = e
  value_kept (Mark m ∷ Word w ∷ Quoted s ∷ ts) y e = e
  value_kept (Mark m ∷ Word w ∷ Mark p ∷ ts) y e = half_kept (half_at (Mark m ∷ Word w ∷ Mark p ∷ ts)) (Mark m ∷ Word w ∷ Mark p ∷ ts) ts y (value_kept ts) e

  pub last_kept : (ts : List Lexeme) (y : ℕ) → last_value old ts ≡ Ok y → last_value new ts ≡ Ok y
  unfolding last_value
  last_kept ts y e = bind_kept (value_at old ts) (value_at new ts) ended ended y (value_kept ts) (λ x h. h) e

  li_kept : (ts : List Lexeme) (y : ℕ × ℕ) → li_at old ts ≡ Ok y → li_at new ts ≡ Ok y
  unfolding li_at
  li_kept ts y e = bind_kept (register_comma ts) (register_comma ts) (λ r. last_value old r.1 >>= λ v. Ok (r.0, v)) (λ r. last_value new r.1 >>= λ v. Ok (r.0, v)) y (λ x h. h) (λ r. bind_kept (last_value old r.1) (last_value new r.1) (λ v. Ok (r.0, v)) (λ v. Ok (r.0, v)) y (last_kept r.1) (λ x h. h)) e

  space_kept : (ts : List Lexeme) (y : ℕ) → space_at old ts ≡ Ok y → space_at new ts ≡ Ok y
  unfolding space_at
  space_kept ts y e = bind_kept (last_value old ts) (last_value new ts) (λ n. only_if OutOfReach (nat_le n (2 ^ 24)) n) (λ n. only_if OutOfReach (nat_le n (2 ^ 24)) n) y (last_kept ts) (λ x h. h) e

  balign_kept : (place : ℕ) (ts : List Lexeme) (y : ℕ) → balign_at old place ts ≡ Ok y → balign_at new place ts ≡ Ok y
  unfolding balign_at
  balign_kept place ts y e = bind_kept (last_value old ts) (last_value new ts) (λ n. only_if OutOfReach (is_alignment n) (padding place n)) (λ n. only_if OutOfReach (is_alignment n) (padding place n)) y (last_kept ts) (λ x h. h) e

  size_kept : (code : Code) (ts : List Lexeme) (y : ℕ) → size_of old code ts ≡ Ok y → size_of new code ts ≡ Ok y
  size_kept c.Li ts y e = bind_kept (li_at old ts) (li_at new ts) (λ o. Ok (li_size o.1)) (λ o. Ok (li_size o.1)) y (li_kept ts) (λ x h. h) e
  size_kept c.La ts y e = e
  size_kept c.Call ts y e = e
  size_kept (c.Pseudo p) ts y e = e
  size_kept (c.Instruction o) ts y e = e

  after_kept : (place : ℕ) (key : Keyword) (ts : List Lexeme) (y : ℕ) → place_after old place key ts ≡ Ok y → place_after new place key ts ≡ Ok y
  after_kept place k.Org ts y e = last_kept ts y e
  after_kept place k.Space ts y e = bind_kept (space_at old ts) (space_at new ts) (advanced place) (advanced place) y (space_kept ts) (λ x h. h) e
  after_kept place k.Balign ts y e = bind_kept (balign_at old place ts) (balign_at new place ts) (advanced place) (advanced place) y (balign_kept place ts) (λ x h. h) e
  after_kept place k.Equ ts y e = e
  after_kept place (k.List w) ts y e = e
  after_kept place k.Ascii ts y e = e
  after_kept place k.Asciz ts y e = e
  after_kept place k.Text ts y e = e
  after_kept place k.Global ts y e = e
  after_kept place (k.Code code) ts y e = bind_kept (size_of old code ts) (size_of new code ts) (advanced place) (advanced place) y (size_kept code ts) (λ x h. h) e

  pub next_kept : (place : ℕ) (ts : List Lexeme) (y : ℕ) → next_place old place ts ≡ Ok y → next_place new place ts ≡ Ok y
  next_kept place [] y e = e
  next_kept place (t ∷ ts) y e = bind_kept (statement_at (t ∷ ts)) (statement_at (t ∷ ts)) (λ x. place_after old place x.0 x.1) (λ x. place_after new place x.0 x.1) y (λ x h. h) (λ x. after_kept place x.0 x.1 y) e
