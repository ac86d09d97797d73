-- A loop that reads this many values: the values so far, followed by those still to be read, are all of them.
use Rattle.std.proofs.Common.{◌≡◌, ℕ, suc, ◌+◌, ◌-◌, ◌<◌, ◌≤◌, List, [], ◌∷◌, ◌++◌, Option, Some, None, refl, sym, ap, ◌∙◌, append_assoc, append-nil, arith}
use Rattle.std.specs.Prelude.{option_map, option_and_then}
use Rattle.rvm_codec.specs.Codec.{read_each}

-- values in front of those that a reader gave
abbrev pub with_front : {A : Type 0} → List A → Option (List A × List ℕ) → Option (List A × List ℕ)
with_front front read = option_map (λ x. (front ++ x.0, x.1)) read

abbrev with_first : {A : Type 0} → A → List A × List ℕ → List A × List ℕ
with_first n x = (n ∷ x.0, x.1)

regrouped : {A : Type 0} (front : List A) (n : A) (read : Option (List A × List ℕ)) → with_front front (option_map (with_first n) read) ≡ with_front (front ++ n ∷ []) read
regrouped front n None = refl
regrouped {A} front n (Some x) = ap (λ (ns : List A). Some (ns, x.1)) (simp append_assoc)

joined : {A : Type 0} (n : A) (read : Option (List A × List ℕ)) → option_and_then {U = List A × List ℕ} (λ x. Some (with_first n x)) read ≡ option_map (with_first n) read
joined n None = refl
joined n (Some x) = refl

one_more : {A : Type 0} (r : List ℕ → Option (A × List ℕ)) (k : ℕ) (bytes : List ℕ) (n : A) (behind : List ℕ) → r bytes ≡ Some (n, behind) → read_each r (suc k) bytes ≡ option_map (with_first n) (read_each r k behind)
unfolding read_each
one_more r k bytes n behind h = rw h (joined n (read_each r k behind))

pub goes_on : {A : Type 0} (r : List ℕ → Option (A × List ℕ)) (front : List A) (count i : ℕ) (bytes : List ℕ) (n : A) (behind : List ℕ) (total : Option (List A × List ℕ)) → i < count → r bytes ≡ Some (n, behind)
    → with_front front (read_each r (count - i) bytes) ≡ total → with_front (front ++ n ∷ []) (read_each r (count - (i + 1)) behind) ≡ total
goes_on r front count i bytes n behind total lt h so_far =
    let k : count - i ≡ suc (count - (i + 1)) = omega arith in
    let one : with_front front (read_each r (count - i) bytes) ≡ with_front (front ++ n ∷ []) (read_each r (count - (i + 1)) behind) = rw (k, one_more r (count - (i + 1)) bytes n behind h) (regrouped front n (read_each r (count - (i + 1)) behind)) in
    sym one ∙ so_far

pub ends : {A : Type 0} (r : List ℕ → Option (A × List ℕ)) (front : List A) (count i : ℕ) (bytes : List ℕ) (total : Option (List A × List ℕ)) → i < count → r bytes ≡ None
    → with_front front (read_each r (count - i) bytes) ≡ total → total ≡ None
unfolding read_each
ends r front count i bytes total lt h so_far =
    let k : count - i ≡ suc (count - (i + 1)) = omega arith in
    let one : with_front front (read_each r (count - i) bytes) ≡ None = rw (k, h) refl in
    sym so_far ∙ one

pub is_done : {A : Type 0} (r : List ℕ → Option (A × List ℕ)) (front : List A) (count i : ℕ) (bytes : List ℕ) (total : Option (List A × List ℕ)) → count ≤ i → with_front front (read_each r (count - i) bytes) ≡ total → total ≡ Some (front, bytes)
unfolding read_each
is_done {A} r front count i bytes total le so_far =
    let k : count - i ≡ 0 = omega arith in
    let one : with_front front (read_each r (count - i) bytes) ≡ Some (front, bytes) = rw k (ap (λ (ns : List A). Some (ns, bytes)) (append-nil front)) in
    sym so_far ∙ one
