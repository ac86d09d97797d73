-- Steps of a reader that may fail, and what they took from the bytes.
use Rattle.std.proofs.Common.{◌≡◌, ℕ, ◌+◌, Bool, true, false, ◌&&◌, cond, eqb, List, [], ◌++◌, drop, Option, Some, None, refl, sym, ap, ◌∙◌, append_assoc, append-nil, arith}
use Rattle.std.proofs.lemmas.Bool.Decides.{nat_tests}
use Rattle.std.proofs.lemmas.List.{get_or-drop}
use Rattle.rvm_codec.specs.Codec.{◌>>=◌}
use Rattle.rvm_codec.specs.Exact.{IsBytes, Takes}

-- a step that gave a value came from a step that gave one
pub bind_some : {A B : Type 0} (o : Option A) (f : A → Option B) (y : B) → (o >>= f) ≡ Some y → (x : A) × (o ≡ Some x) × (f x ≡ Some y)
bind_some (Some x) f y e = (x, refl, e)
bind_some None f y e = absurd cc

pub some_is : {A : Type 0} (x y : A) → Some x ≡ Some y → x ≡ y
some_is x y e = cc

pub none_is : {A : Type 0} {x : A} → Some x ≡ None → ⊥
none_is e = cc

-- a test that let a value through
pub tested : {A : Type 0} (b : Bool) (x y : A) → cond b (Some x) None ≡ Some y → (b ≡ true) × (x ≡ y)
tested true x y e = (refl, cc)
tested false x y e = absurd cc

-- a test that did not stop a value
pub let_through : {A : Type 0} (b : Bool) (x y : A) → cond b None (Some x) ≡ Some y → (b ≡ false) × (x ≡ y)
let_through true x y e = absurd cc
let_through false x y e = (refl, cc)

pub both_are : (a b : Bool) → a && b ≡ true → (a ≡ true) × (b ≡ true)
both_are true b h = (refl, h)
both_are false b h = absurd cc

pub and_so : (a b : Bool) → a ≡ true → b ≡ true → a && b ≡ true
and_so true b p q = q
and_so false b p q = absurd cc

pub same_number : (a b : ℕ) → a ≡ b → eqb a b ≡ true
same_number a b e = grind (arith, nat_tests)

-- ---- what was taken

pub IsBytes-drop : (n : ℕ) (bytes : List ℕ) → IsBytes bytes → IsBytes (drop n bytes)
IsBytes-drop n bytes h i = rw get_or-drop (h (n + i))

pub Takes-then : (a x b y c : List ℕ) → Takes a x b → Takes b y c → Takes a (x ++ y) c
Takes-then a x b y c p q = record {
  parts = p.parts ∙ ap (λ (t : List ℕ). x ++ t) q.parts ∙ sym (append_assoc x y c);
  rest_fits = q.rest_fits;
}

pub Takes-all : (a x b : List ℕ) → Takes a x b → b ≡ [] → a ≡ x
Takes-all a x b p e = p.parts ∙ ap (λ (t : List ℕ). x ++ t) e ∙ append-nil x
