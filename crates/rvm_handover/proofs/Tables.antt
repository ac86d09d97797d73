-- Lists as tables by number.
use Rattle.std.proofs.Common.{◌≡◌, ◌⊎◌, inl, inr, ℕ, ◌<◌, ◌≤◌, nat_lt, List, length, replicate, get_or, set, ap, ◌∙◌, arith}
use Rattle.std.proofs.Math.Path.{fun_ext}
use Rattle.std.proofs.lemmas.Bool.{cases_Bool, cases_eq, eq-eqb, ne_eqb, ltb-true, ltb-false}
use Rattle.std.proofs.lemmas.List.{get_or-set_same, get_or-set_other, get_or-replicate, get_or_past, length-replicate}
use Rattle.rvm_protocol.specs.Pages.{put}

cases_lt : (p n : ℕ) → (p < n) ⊎ (n ≤ p)
cases_lt p n = elim (cases_Bool (nat_lt p n)) [ inl h ↦ inl (ltb-true p n h) | inr h ↦ inr (ltb-false p n h) ]

-- a list with one item changed
pub set_is_put : {V : Type 0} (xs : List V) (p : ℕ) (v d : V) → p < length xs → (λ q. get_or (set xs p v) q d) ≡ put (λ q. get_or xs q d) p v
set_is_put xs p v d lt =
    fun_ext (λ q. elim (cases_eq q p) [
      | inl e ↦ rw (eq-eqb q p e) (ap (λ z. get_or (set xs p v) z d) e ∙ get_or-set_same xs p v d lt)
      | inr n ↦ rw (ne_eqb q p n) (get_or-set_other xs p q v d n)
    ])

-- a list of one value, which is also what is past its end
pub of_replicate : {V : Type 0} (n p : ℕ) (v : V) → get_or (replicate n v) p v ≡ v
of_replicate n p v = elim (cases_lt p n) [
  | inl lt ↦ get_or-replicate n p v v lt
  | inr ge ↦ get_or_past (replicate n v) p v (let e = length-replicate n v in omega (arith, e, ge))
]
