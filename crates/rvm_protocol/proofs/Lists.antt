-- Laws of lists that grow, of lowest members, of sizes and of values that are all there.
use Rattle.std.proofs.Common.{◌≡◌, inl, inr, ℕ, zero, suc, ◌+◌, ◌<◌, ◌≤◌, ◌&&◌, Bool, true, false, List, [], ◌∷◌, ◌++◌, length, get_or, Option, Some, None, refl, sym, ap, ◌∙◌, arith, add-zero}
use Rattle.std.specs.Prelude.{slice_get}
use Rattle.rvm_protocol.specs.Pages.{Pages, least, size, listed, gathered, with_first}
use Rattle.rvm_protocol.proofs.Basics.{same_or}
use Rattle.rvm_protocol.proofs.Phases.{if_true, if_false}

pub got_new : {X : Type 0} (xs : List X) (a : X) (k : ℕ) → k ≡ length xs
    → slice_get (xs ++ a ∷ []) k ≡ Some a
got_new [] a k e = ap (slice_get (a ∷ [])) e
got_new (x ∷ xs) a zero e = absurd (omega arith)
got_new (x ∷ xs) a (suc k) e = got_new xs a k (omega arith)

pub got_old : {X : Type 0} (xs : List X) (a b : X) (k : ℕ) → slice_get xs k ≡ Some a
    → slice_get (xs ++ b ∷ []) k ≡ Some a
got_old [] a b k h = cc
got_old (x ∷ xs) a b zero h = h
got_old (x ∷ xs) a b (suc k) h = got_old xs a b k h

pub length_more : {X : Type 0} (xs : List X) (a : X) → length (xs ++ a ∷ []) ≡ suc (length xs)
length_more [] a = refl
length_more (x ∷ xs) a = ap suc (length_more xs a)

pub and_true : (a b : Bool) → a ≡ true → b ≡ true → (a && b) ≡ true
and_true true b h k = k
and_true false b h k = cc

pub least_here : (s : Pages) (first count : ℕ) → 0 < count → s first ≡ true
    → least s first count ≡ Some first
unfolding least
least_here s first zero lt h = absurd (omega arith)
least_here s first (suc count) lt h = if_true (s first) (Some first) (least s (suc first) count) h

pub least_nowhere : (s : Pages) (first count : ℕ) → ((q : ℕ) → s q ≡ false)
    → least s first count ≡ None
unfolding least
least_nowhere s first zero h = refl
least_nowhere s first (suc count) h =
    if_false (s first) (Some first) (least s (suc first) count) (h first)
    ∙ least_nowhere s (suc first) count h

pub least_empty : (s : Pages) (first count : ℕ) → count ≡ 0 → least s first count ≡ None
unfolding least
least_empty s first zero h = refl
least_empty s first (suc count) h = absurd (omega arith)

pub size_of_all : (s : Pages) (n : ℕ) → ((q : ℕ) → q < n → s q ≡ true) → size s n ≡ n
unfolding size
size_of_all s zero h = refl
size_of_all s (suc n) h =
    let a = size_of_all s n (λ q lt. h q (omega arith)) in let b = if_true {X = ℕ} (s n) 1 0
    (h n (omega arith)) in omega (arith, a, b)

pub size_of_none : (s : Pages) (n : ℕ) → ((q : ℕ) → q < n → s q ≡ false) → size s n ≡ 0
unfolding size
size_of_none s zero h = refl
size_of_none s (suc n) h =
    let a = size_of_none s n (λ q lt. h q (omega arith)) in let b = if_false {X = ℕ} (s n) 1 0
    (h n (omega arith)) in omega (arith, a, b)

pub listed_same : {V : Type 0} (f g : ℕ → V) (first count : ℕ)
    → ((q : ℕ) → q < first + count → f q ≡ g q) → listed f first count ≡ listed g first count
unfolding listed
listed_same f g first zero h = refl
listed_same f g first (suc count) h =
    ap (λ z. z ∷ listed f (suc first) count) (h first (omega arith))
    ∙ ap (λ z. g first ∷ z) (listed_same f g (suc first) count (λ q lt. h q (omega arith)))

pub gathered_none : {V : Type 0} (f : ℕ → Option V) (first count j : ℕ) → first ≤ j
    → j < first + count
    → f j ≡ None → gathered f first count ≡ None
unfolding gathered
gathered_none f first zero j a b h = absurd (omega arith)
gathered_none f first (suc count) j a b h =
    elim (same_or j first) [
      | inl e ↦ ap (λ z. with_first z (gathered f (suc first) count)) (ap f (sym e) ∙ h)
      | inr n ↦
          ap (λ z. with_first (f first) z)
          (gathered_none f (suc first) count j (omega (arith, n)) (omega arith) h)
          ∙ no_rest (f first)
    ]
  where
    no_rest : {V : Type 0} (q : Option V) → with_first q None ≡ None
    no_rest None = refl
    no_rest (Some x) = refl

pub gathered_all : {V : Type 0} (f : ℕ → Option V) (d : V) (first : ℕ) (xs : List V)
    → ((i : ℕ) → i < length xs → f (first + i) ≡ Some (get_or xs i d))
    → gathered f first (length xs) ≡ Some xs
unfolding gathered
gathered_all f d first [] h = refl
gathered_all f d first (x ∷ xs) h =
    let here : f first ≡ Some x = ap f (sym (add-zero first)) ∙ h 0 (omega arith) in
    let rest : gathered f (suc first) (length xs) ≡ Some xs = gathered_all f d (suc first) xs
    (λ i lt. let z : suc first + i ≡ first + suc i = omega arith in ap f z
    ∙ h (suc i) (omega arith)) in
    ap (λ z. with_first z (gathered f (suc first) (length xs))) here
    ∙ ap (λ z. with_first (Some x) z) rest
