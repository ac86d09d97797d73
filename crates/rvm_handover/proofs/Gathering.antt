-- The bytes of all pieces, concatenated, if none is missing.
use Rattle.std.proofs.Common.{◌≡◌, ◌<◌, ◌≤◌, ℕ, suc, ◌+◌, ◌-◌, Bool, true, false, List, ◌++◌, Option, Some, None, refl, sym, ap, ◌∙◌, arith, append_assoc, append-nil}
use Rattle.std.specs.Prelude.{is_some, option_map}
use Rattle.rvm_protocol.specs.Pages.{gathered, with_first}
use Rattle.rvm_guest.specs.Pages.{joined}

-- bytes after others, if there are any
abbrev pub behind : List ℕ → Option (List ℕ) → Option (List ℕ)
behind xs rest = option_map (λ ys. xs ++ ys) rest

first_joined : (x : List ℕ) (rest : Option (List (List ℕ))) → option_map joined (with_first (Some x) rest) ≡ behind x (option_map joined rest)
unfolding joined
first_joined x None = refl
first_joined x (Some xs) = refl

two_behind : (xs x : List ℕ) (rest : Option (List ℕ)) → behind (xs ++ x) rest ≡ behind xs (behind x rest)
two_behind xs x None = refl
two_behind xs x (Some ys) = ap (λ z. Some z) (append_assoc xs x ys)

next_is : (o : Option (List ℕ)) (f : ℕ → Option (List ℕ)) (p n : ℕ) → p < n → f p ≡ o → gathered f p (n - p) ≡ with_first o (gathered f (p + 1) (n - (p + 1)))
unfolding gathered
next_is o f p n lt is =
    let e : n - p ≡ suc (n - (p + 1)) = omega (arith, lt) in
    let more : suc p ≡ p + 1 = omega arith in
    ap (λ k. gathered f p k) e
    ∙ ap (λ q. with_first (f p) (gathered f q (n - (p + 1)))) more
    ∙ ap (λ z. with_first z (gathered f (p + 1) (n - (p + 1)))) is

module _ (f : ℕ → Option (List ℕ)) (p n : ℕ) (xs : List ℕ) (all : Option (List ℕ)) (so_far : behind xs (option_map joined (gathered f p (n - p))) ≡ all) where
  pub taken : (x : List ℕ) → p < n → f p ≡ Some x → behind (xs ++ x) (option_map joined (gathered f (p + 1) (n - (p + 1)))) ≡ all
  taken x lt is =
      two_behind xs x (option_map joined (gathered f (p + 1) (n - (p + 1))))
      ∙ ap (λ z. behind xs z) (sym (first_joined x (gathered f (p + 1) (n - (p + 1)))) ∙ ap (λ z. option_map joined z) (sym (next_is (Some x) f p n lt is)))
      ∙ so_far

  pub lacking : p < n → f p ≡ None → None ≡ all
  lacking lt is = sym (ap (λ z. behind xs (option_map joined z)) (next_is None f p n lt is)) ∙ so_far

  pub done : n ≤ p → Some xs ≡ all
  unfolding gathered joined
  done ge =
      let e : n - p ≡ 0 = omega (arith, ge) in
      ap (λ z. Some z) (sym (append-nil xs))
      ∙ ap (λ k. behind xs (option_map joined (gathered f p k))) (sym e)
      ∙ so_far

-- WHETHER NONE IS MISSING

first_there : (x : List ℕ) (rest : Option (List (List ℕ))) → is_some (with_first (Some x) rest) ≡ is_some rest
first_there x None = refl
first_there x (Some xs) = refl

module _ (f : ℕ → Option (List ℕ)) (p n : ℕ) (all : Bool) (so_far : is_some (gathered f p (n - p)) ≡ all) where
  pub one_there : (x : List ℕ) → p < n → f p ≡ Some x → is_some (gathered f (p + 1) (n - (p + 1))) ≡ all
  one_there x lt is =
      sym (ap (λ (o : Option (List (List ℕ))). is_some o) (next_is (Some x) f p n lt is) ∙ first_there x (gathered f (p + 1) (n - (p + 1)))) ∙ so_far

  pub one_lacking : p < n → f p ≡ None → false ≡ all
  one_lacking lt is = sym (ap (λ (o : Option (List (List ℕ))). is_some o) (next_is None f p n lt is)) ∙ so_far

  pub all_there : n ≤ p → true ≡ all
  unfolding gathered
  all_there ge =
      let e : n - p ≡ 0 = omega (arith, ge) in
      sym (ap (λ k. is_some (gathered f p k)) e) ∙ so_far
