-- The only index with a property, looked for one index after the other.
use Rattle.std.proofs.Common.{◌≡◌, ◌∙◌, ℕ, zero, suc, ◌+◌, ◌<◌, Bool, true, false, None, Some, refl, sym, ap, subst, arith, ◌⊎◌, inl, inr}
use Rattle.std.proofs.lemmas.Bool.{true≢false}
use Rattle.rvm_replay.specs.Audited.{IsOnly}

-- an index below the next one is below this one, or is it
up : (i n : ℕ) → (i < n) ⊎ (i ≡ n) → (suc i < suc n) ⊎ (suc i ≡ suc n)
up i n (inl less) = inl (omega (arith, less))
up i n (inr same) = inr (ap suc same)

below_or_at : (i n : ℕ) → i < n + 1 → (i < n) ⊎ (i ≡ n)
below_or_at zero zero less = inr refl
below_or_at zero (suc n) less = inl (omega arith)
below_or_at (suc i) zero less = absurd (omega (arith, less))
below_or_at (suc i) (suc n) less = up i n (below_or_at i n (omega (arith, less)))

by_place : (P : ℕ → Type 0) (i n : ℕ) → ((j : ℕ) → j < n → P j) → P n → (i < n) ⊎ (i ≡ n) → P i
by_place P i n each here (inl less) = each i less
by_place P i n each here (inr is) = subst P (sym is) here

-- what holds of each index below this one, and of this one, holds of each index below the next one
pub below_next : (P : ℕ → Type 0) (n : ℕ) → ((i : ℕ) → i < n → P i) → P n → (i : ℕ) → i < n + 1 → P i
below_next P n each here i less = by_place P i n each here (below_or_at i n less)

-- one more index, which does not have the property
pub none_more : (has : ℕ → Bool) (n : ℕ) → IsOnly has n None → has n ≡ false → IsOnly has (n + 1) None
none_more has n none not_here = below_next (λ i. has i ≡ false) n none not_here

pub some_more : (has : ℕ → Bool) (n k : ℕ) → IsOnly has n (Some k) → has n ≡ false → IsOnly has (n + 1) (Some k)
some_more has n k only not_here =
    let less = only.0 in (
      omega (arith, less),
      only.1,
      below_next (λ i. has i ≡ true → i ≡ k) n only.2 (λ e. absurd (true≢false (sym e ∙ not_here))),
    )

-- the first index that has it
pub first_found : (has : ℕ → Bool) (n : ℕ) → IsOnly has n None → has n ≡ true → IsOnly has (n + 1) (Some n)
first_found has n none here = (
  omega arith,
  here,
  below_next (λ i. has i ≡ true → i ≡ n) n (λ i less e. absurd (true≢false (sym e ∙ none i less))) (λ e. refl),
)
