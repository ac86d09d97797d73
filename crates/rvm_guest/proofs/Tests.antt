-- The test for zeros accepts the page of zeros, and no other bytes.
use Rattle.std.proofs.Common.{◌≡◌, ℕ, true, ◌==◌, List, [], ◌∷◌, replicate, length, refl, ap, ◌∙◌}
use Rattle.std.specs.List.{list_all}
use Rattle.std.proofs.lemmas.Bool.{eqb-true}
use Rattle.rvm_codec.proofs.Steps.{both_are}
use Rattle.rvm_guest.specs.Pages.{zeros, is_zeros}

pub zeros_pass : is_zeros zeros ≡ true
zeros_pass = refl

all_zeros : (xs : List ℕ) → list_all (λ b. b == 0) xs ≡ true → xs ≡ replicate (length xs) 0
all_zeros [] h = refl
all_zeros (x ∷ xs) h =
    let a = both_are (x == 0) (list_all (λ b. b == 0) xs) h in
    let e : x ≡ 0 = eqb-true x 0 a.0 in
    ap (λ z. z ∷ xs) e ∙ ap (λ z. 0 ∷ z) (all_zeros xs a.1)

pub only_zeros_pass : (p : List ℕ) → is_zeros p ≡ true → p ≡ zeros
only_zeros_pass p h =
    let a = both_are (length p == 4096) (list_all (λ b. b == 0) p) h in
    all_zeros p a.1 ∙ ap (λ n. replicate n 0) (eqb-true _ _ a.0)
