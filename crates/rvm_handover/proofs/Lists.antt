-- The members of a set, listed in rising order.
use Rattle.std.proofs.Common.{◌≡◌, ◌<◌, ◌≤◌, ℕ, zero, suc, ◌+◌, ◌-◌, Bool, true, false, if◌then◌else◌, List, Result, Ok, Err, [], ◌∷◌, ◌++◌, length, refl, sym, ap, ◌∙◌, arith, append_assoc, append-nil}
use Rattle.std.proofs.lemmas.List.{length-append}
use Rattle.std.specs.Prelude.{OnErr}
use Rattle.rvm_protocol.specs.Pages.{Pages, members, size}

next_is : (b : Bool) (s : Pages) (p n : ℕ) → p < n → s p ≡ b → members s p (n - p) ≡ (if b then p ∷ members s (p + 1) (n - (p + 1)) else members s (p + 1) (n - (p + 1)))
unfolding members
next_is b s p n lt is =
    let e : n - p ≡ suc (n - (p + 1)) = omega (arith, lt) in
    let more : suc p ≡ p + 1 = omega arith in
    ap (λ k. members s p k) e
    ∙ ap (λ q. if s p then p ∷ members s q (n - (p + 1)) else members s q (n - (p + 1))) more
    ∙ ap (λ (c : Bool). if c then p ∷ members s (p + 1) (n - (p + 1)) else members s (p + 1) (n - (p + 1))) is

-- the members listed so far, and those from p on, are all
module _ (s : Pages) (p n : ℕ) (xs all : List ℕ) (so_far : xs ++ members s p (n - p) ≡ all) where
  pub taken : p < n → s p ≡ true → (xs ++ p ∷ []) ++ members s (p + 1) (n - (p + 1)) ≡ all
  taken lt is =
      append_assoc xs (p ∷ []) (members s (p + 1) (n - (p + 1)))
      ∙ ap (λ z. xs ++ z) (sym (next_is true s p n lt is))
      ∙ so_far

  pub left : p < n → s p ≡ false → xs ++ members s (p + 1) (n - (p + 1)) ≡ all
  left lt is = ap (λ z. xs ++ z) (sym (next_is false s p n lt is)) ∙ so_far

  pub some : p < n → s p ≡ true → 0 < length all
  some lt is =
      let rest : List ℕ = members s (p + 1) (n - (p + 1)) in
      let e : length (xs ++ p ∷ rest) ≡ length all = ap length (ap (λ z. xs ++ z) (sym (next_is true s p n lt is)) ∙ so_far) in
      let l : length (xs ++ p ∷ rest) ≡ length xs + suc (length rest) = length-append xs (p ∷ rest) in
      omega (arith, e, l)

  pub done : n ≤ p → xs ≡ all
  unfolding members
  done ge =
      let e : n - p ≡ 0 = omega (arith, ge) in
      sym (append-nil xs) ∙ ap (λ k. xs ++ members s p k) (sym e) ∙ so_far

-- THEIR COUNT

abbrev one_if : Bool → ℕ
one_if b = if b then 1 else 0

length_if : (b : Bool) (p : ℕ) (rest : List ℕ) → length (if b then p ∷ rest else rest) ≡ one_if b + length rest
length_if true p rest = omega arith
length_if false p rest = omega arith

last_member : (s : Pages) (p n : ℕ) → length (members s p (suc n)) ≡ one_if (s (p + n)) + length (members s p n)
unfolding members
last_member s p zero =
    let e : p + 0 ≡ p = omega arith in
    let none : List ℕ = [] in
    length_if (s p) p none ∙ ap (λ q. one_if (s q) + length none) (sym e)
last_member s p (suc n) =
    let a : length (members s p (suc (suc n))) ≡ one_if (s p) + length (members s (suc p) (suc n)) = length_if (s p) p (members s (suc p) (suc n)) in
    let b : length (members s p (suc n)) ≡ one_if (s p) + length (members s (suc p) n) = length_if (s p) p (members s (suc p) n) in
    let ih = last_member s (suc p) n in
    let e : suc p + n ≡ p + suc n = omega arith in
    let f : one_if (s (suc p + n)) ≡ one_if (s (p + suc n)) = ap (λ q. one_if (s q)) e in
    omega (arith, a, b, ih, f)

pub members_count : (s : Pages) (n : ℕ) → length (members s 0 n) ≡ size s n
unfolding size members
members_count s zero = refl
members_count s (suc n) =
    let e : 0 + n ≡ n = omega arith in
    last_member s 0 n ∙ ap (λ q. one_if (s q) + length (members s 0 n)) e ∙ ap (λ k. one_if (s n) + k) (members_count s n)

-- what holds anyway holds if a result is an error
pub on_err : {X E : Type 0} (r : Result X E) (P : Type 0) → P → OnErr r P
on_err (Ok x) P p = tt
on_err (Err e) P p = p
