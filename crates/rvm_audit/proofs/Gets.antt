-- Elements by their index.
use Rattle.std.proofs.Common.{◌≡◌, ℕ, zero, suc, ◌<◌, ◌≤◌, List, [], ◌∷◌, ◌++◌, length, take, drop, Some, refl, ap, arith, inl, inr}
use Rattle.std.specs.Prelude.{slice_get, ◌⊎◌}
use Rattle.std.proofs.lemmas.Option.{same_Some}

pub get_front : {X : Type 0} (xs ys : List X) (i : ℕ) (s : X) → slice_get xs i ≡ Some s
    → slice_get (xs ++ ys) i ≡ Some s
get_front [] ys i s h = cc
get_front (x ∷ xs) ys zero s h = h
get_front (x ∷ xs) ys (suc i) s h = get_front xs ys i s h

pub get_end : {X : Type 0} (xs : List X) (s : X) → slice_get (xs ++ s ∷ []) (length xs) ≡ Some s
get_end [] s = refl
get_end (x ∷ xs) s = get_end xs s

pub get_either : {X : Type 0} (xs ys : List X) (k : ℕ) (s : X) → slice_get (xs ++ ys) k ≡ Some s
    → (slice_get xs k ≡ Some s) ⊎ ((m : ℕ) × (slice_get ys m ≡ Some s))
get_either [] ys k s h = inr (k, h)
get_either (x ∷ xs) ys zero s h = inl h
get_either (x ∷ xs) ys (suc k) s h = get_either xs ys k s h

pub get_take : {X : Type 0} (xs : List X) (j k : ℕ) → k < j → slice_get (take j xs) k ≡ slice_get xs k
get_take [] zero k lt = absurd (omega arith)
get_take [] (suc j) k lt = refl
get_take (x ∷ xs) zero k lt = absurd (omega arith)
get_take (x ∷ xs) (suc j) zero lt = refl
get_take (x ∷ xs) (suc j) (suc k) lt = get_take xs j k (omega arith)

pub take_get : {X : Type 0} (xs : List X) (i : ℕ) (n : X) → slice_get xs i ≡ Some n
    → take (suc i) xs ≡ take i xs ++ n ∷ []
take_get [] i n h = cc
take_get (x ∷ xs) zero n h = let e : x ≡ n = cc in ap (λ y. y ∷ []) e
take_get (x ∷ xs) (suc i) n h = ap (λ ys. x ∷ ys) (take_get xs i n h)

-- an element of a list with nothing after it
pub get_nothing : {X : Type 0} (xs : List X) (k : ℕ) (s : X) → slice_get (xs ++ []) k ≡ Some s → slice_get xs k ≡ Some s
get_nothing [] k s h = h
get_nothing (x ∷ xs) zero s h = h
get_nothing (x ∷ xs) (suc k) s h = get_nothing xs k s h

-- an element of a list with one more at its end
pub get_last : {X : Type 0} (xs : List X) (y : X) (k : ℕ) (s : X) → slice_get (xs ++ y ∷ []) k ≡ Some s
    → (slice_get xs k ≡ Some s) ⊎ ((y ≡ s) × (k ≡ length xs))
get_last [] y zero s h = inr (same_Some y s h, refl)
get_last [] y (suc k) s h = absurd cc
get_last (x ∷ xs) y zero s h = inl h
get_last (x ∷ xs) y (suc k) s h = elim (get_last xs y k s h) [ inl here ↦ inl here | inr last ↦ inr (last.0, ap suc last.1) ]

-- what is left from an element on
pub drop_get : {X : Type 0} (xs : List X) (i : ℕ) (n : X) → slice_get xs i ≡ Some n → drop i xs ≡ n ∷ drop (suc i) xs
drop_get [] i n h = cc
drop_get (x ∷ xs) zero n h = ap (λ y. y ∷ xs) (same_Some x n h)
drop_get (x ∷ xs) (suc i) n h = drop_get xs i n h

pub drop_end : {X : Type 0} (xs : List X) (i : ℕ) → length xs ≤ i → drop i xs ≡ []
drop_end [] zero le = refl
drop_end [] (suc i) le = refl
drop_end (x ∷ xs) zero le = absurd (omega arith)
drop_end (x ∷ xs) (suc i) le = drop_end xs i (omega arith)
