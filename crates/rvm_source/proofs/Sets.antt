-- The set of a list's numbers below a count, number by number.
use Rattle.std.proofs.Common.{◌≡◌, inl, inr, ℕ, ◌+◌, ◌<◌, ◌≤◌, Bool, true, false, ◌&&◌, ◌||◌, ◌==◌, nat_lt, List, length, replicate, get_or, set, drop, refl, sym, ap, ◌∙◌, arith}
use Rattle.std.proofs.lemmas.Bool.{cases_eq, eq-eqb, ne_eqb, lt-ltb, le-ltb}
use Rattle.std.proofs.lemmas.List.{length-set, length-replicate, get_or-set_same, get_or-set_other, drop_more, drop_all}
use Rattle.rvm_mem.specs.Pages.{has}
use Rattle.rvm_protocol.specs.Pages.{is_in}
use Rattle.rvm_precopy.proofs.Ties.{has_none}
use Rattle.rvm_message.proofs.Logs.{or_false, or_true}

and_false : (b : Bool) → (b && false) ≡ false
and_false true = refl
and_false false = refl

-- what is in the set so far, and what is left of the list, together make the whole set
pub record Gathers (numbers : List ℕ) (pages i : ℕ) (s : List Bool) : Type 0 where
  pub size : length s ≡ pages
  pub all : (p : ℕ) → (has p s || (is_in (drop i numbers) p && nat_lt p pages)) ≡ (is_in numbers p && nat_lt p pages)

pub gathers_none : (numbers : List ℕ) (pages : ℕ) (s : List Bool) → s ≡ replicate pages false → Gathers numbers pages 0 s
gathers_none numbers pages s e =
    record {
      size = ap length e ∙ length-replicate pages false;
      all = λ p. ap (λ b. b || (is_in numbers p && nat_lt p pages)) (ap (λ z. has p z) e ∙ has_none pages p);
    }

next_in : (numbers : List ℕ) (i x p : ℕ) → i < length numbers → x ≡ get_or numbers i 0 → is_in (drop i numbers) p ≡ ((p == x) || is_in (drop (i + 1) numbers) p)
unfolding is_in
next_in numbers i x p lt e =
    ap (λ z. is_in z p) (drop_more numbers i 0 lt) ∙ ap (λ z. (p == z) || is_in (drop (i + 1) numbers) p) (sym e)

one_more : (pages x p : ℕ) (s : List Bool) (rest : Bool) → x < length s → length s ≡ pages
    → (has p (set s x true) || (rest && nat_lt p pages)) ≡ (has p s || (((p == x) || rest) && nat_lt p pages))
one_more pages x p s rest lt size =
    elim (cases_eq p x) [
      | inl e ↦
          let inside : p < pages = omega (arith, lt, size, e) in
          ap (λ b. b || (rest && nat_lt p pages)) (ap (λ z. has z (set s x true)) e ∙ get_or-set_same s x true false lt)
          ∙ sym (rw (eq-eqb p x e, lt-ltb p pages inside) (or_true (has p s)))
      | inr n ↦
          ap (λ b. b || (rest && nat_lt p pages)) (get_or-set_other s x p true false n)
          ∙ sym (rw (ne_eqb p x n) refl)
    ]

none_more : (pages x p : ℕ) (rest : Bool) → pages ≤ x → (rest && nat_lt p pages) ≡ (((p == x) || rest) && nat_lt p pages)
none_more pages x p rest ge =
    elim (cases_eq p x) [
      | inl e ↦ rw (le-ltb p pages (omega (arith, ge, e))) (and_false rest ∙ sym (and_false ((p == x) || rest)))
      | inr n ↦ sym (rw (ne_eqb p x n) refl)
    ]

pub gathers_one : (numbers : List ℕ) (pages i x : ℕ) (s : List Bool) → Gathers numbers pages i s → i < length numbers → x ≡ get_or numbers i 0
    → x < pages → Gathers numbers pages (i + 1) (set s x true)
gathers_one numbers pages i x s so_far lt e inside =
    let size : length s ≡ pages = so_far.size in
    record {
      size = length-set s x true ∙ size;
      all = λ p. one_more pages x p s (is_in (drop (i + 1) numbers) p) (omega (arith, size, inside)) size
          ∙ ap (λ b. has p s || (b && nat_lt p pages)) (sym (next_in numbers i x p lt e)) ∙ so_far.all p;
    }

pub gathers_other : (numbers : List ℕ) (pages i x : ℕ) (s : List Bool) → Gathers numbers pages i s → i < length numbers → x ≡ get_or numbers i 0
    → pages ≤ x → Gathers numbers pages (i + 1) s
gathers_other numbers pages i x s so_far lt e outside =
    record {
      size = so_far.size;
      all = λ p. ap (λ b. has p s || b) (none_more pages x p (is_in (drop (i + 1) numbers) p) outside)
          ∙ ap (λ b. has p s || (b && nat_lt p pages)) (sym (next_in numbers i x p lt e)) ∙ so_far.all p;
    }

pub gathers_all : (numbers : List ℕ) (pages i : ℕ) (s : List Bool) → Gathers numbers pages i s → length numbers ≤ i
    → (p : ℕ) → has p s ≡ (is_in numbers p && nat_lt p pages)
unfolding is_in
gathers_all numbers pages i s so_far le = λ p.
    sym (ap (λ z. has p s || (is_in z p && nat_lt p pages)) (drop_all i numbers le) ∙ or_false (has p s)) ∙ so_far.all p
