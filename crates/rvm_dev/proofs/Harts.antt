-- The words of as many harts as there are, out of those of 8.
use Rattle.std.proofs.Common.{◌≡◌, ℕ, zero, suc, ◌-◌, ◌^◌, ◌≤◌, false, List, [], ◌∷◌, take, set, replicate, refl, ap, length-take}
use Rattle.std.proofs.lemmas.List.{take-replicate}

-- a write of one word
pub take-set : {X : Type 0} (n i : ℕ) (xs : List X) (x : X) →
    take n (set xs i x) ≡ set (take n xs) i x
take-set zero i xs x = refl
take-set (suc n) i [] x = refl
take-set (suc n) zero (y ∷ xs) x = refl
take-set (suc n) (suc i) (y ∷ xs) x = ap (λ ys. y ∷ ys) (take-set n i xs x)

-- the words at reset
pub take-false : (n : ℕ) → n ≤ 8 →
    take n (false ∷ false ∷ false ∷ false ∷ false ∷ false ∷ false ∷ false ∷ []) ≡ replicate n false
take-false n within = take-replicate n 8 false within

abbrev ones : ℕ
ones = 2 ^ 64 - 1

pub take-ones : (n : ℕ) → n ≤ 8 →
    take n (ones ∷ ones ∷ ones ∷ ones ∷ ones ∷ ones ∷ ones ∷ ones ∷ []) ≡ replicate n ones
take-ones n within = take-replicate n 8 ones within

-- what `grind` needs of them
pub ruleset harts = (take-set, take-false, take-ones, length-take)
