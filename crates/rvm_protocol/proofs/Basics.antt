-- Laws of the words on sets of pages, and of frames that are equal.
use Rattle.std.proofs.Common.{◌≡◌, ◌≢◌, ◌⊎◌, inl, inr, ⊎_elim, ℕ, zero, suc, ◌+◌, ◌<◌, ◌≤◌, Bool, true, false, not, ◌||◌, ◌&&◌, if◌then◌else◌, List, length, get_or, Some, None, refl, sym, ap, ◌∙◌, subst, arith, add-zero}
use Rattle.std.proofs.lemmas.Bool.{eq-eqb, ne_eqb}
use Rattle.std.proofs.lemmas.Bool.Decides.{eqb_tells}
use Rattle.rvm_protocol.specs.Frames.{Frame, Offer, Page, RoundEnd, State, Part}
use Rattle.rvm_protocol.specs.Pages.{Pages, least, size, listed, put}

module _ {P B : Type 0} where
  pub page_is : (e e' p p' k k' : ℕ) (b b' : P)
      → ◌≡◌ {A = Frame P B} (Page e p k b) (Page e' p' k' b')
      → (e ≡ e') × (p ≡ p') × (k ≡ k') × (b ≡ b')
  page_is e e' p p' k k' b b' h = (cc, cc, cc, cc)

  pub state_is : (e e' : ℕ) (ns ns' : List ℕ) (b b' : B)
      → ◌≡◌ {A = Frame P B} (State e ns b) (State e' ns' b') → (e ≡ e') × (ns ≡ ns') × (b ≡ b')
  state_is e e' ns ns' b b' h = (cc, cc, cc)

  pub offer_is : (e e' a a' b b' : ℕ) → ◌≡◌ {A = Frame P B} (Offer e a b) (Offer e' a' b')
      → (a ≡ a') × (b ≡ b')
  offer_is e e' a a' b b' h = (cc, cc)

  pub state_no_page : (e e' p k : ℕ) (ns : List ℕ) (b : P) (y : B)
      → ◌≡◌ {A = Frame P B} (State e ns y) (Page e' p k b) → ⊥
  state_no_page e e' p k ns b y h = cc

  pub round_no_page : (e e' p k w x y z : ℕ) (b : P)
      → ◌≡◌ {A = Frame P B} (RoundEnd e w x y z) (Page e' p k b) → ⊥
  round_no_page e e' p k w x y z b h = cc

  pub round_no_state : (e e' w x y z : ℕ) (ns : List ℕ) (b : B)
      → ◌≡◌ {A = Frame P B} (RoundEnd e w x y z) (State e' ns b) → ⊥
  round_no_state e e' w x y z ns b h = cc

  pub part_is : (e e' st st' i i' u u' : ℕ) (x x' : List ℕ)
      → ◌≡◌ {A = Frame P B} (Part e st i u x) (Part e' st' i' u' x')
      → (st ≡ st') × (i ≡ i') × (u ≡ u') × (x ≡ x')
  part_is e e' st st' i i' u u' x x' h = (cc, cc, cc, cc)

  pub part_no_page : (e e' st i u p k : ℕ) (x : List ℕ) (b : P)
      → ◌≡◌ {A = Frame P B} (Part e st i u x) (Page e' p k b) → ⊥
  part_no_page e e' st i u p k x b h = cc

  pub part_no_state : (e e' st i u : ℕ) (x ns : List ℕ) (b : B)
      → ◌≡◌ {A = Frame P B} (Part e st i u x) (State e' ns b) → ⊥
  part_no_state e e' st i u x ns b h = cc

  pub page_no_part : (e e' p k st i u : ℕ) (x : List ℕ) (b : P)
      → ◌≡◌ {A = Frame P B} (Page e p k b) (Part e' st i u x) → ⊥
  page_no_part e e' p k st i u x b h = cc

  pub state_no_part : (e e' st i u : ℕ) (ns x : List ℕ) (b : B)
      → ◌≡◌ {A = Frame P B} (State e ns b) (Part e' st i u x) → ⊥
  state_no_part e e' st i u ns x b h = cc

  pub page_no_state : (e e' p k : ℕ) (ns : List ℕ) (b : P) (y : B)
      → ◌≡◌ {A = Frame P B} (Page e p k b) (State e' ns y) → ⊥
  page_no_state e e' p k ns b y h = cc

pub some_is : {X : Type 0} (x y : X) → Some x ≡ Some y → x ≡ y
some_is x y h = cc

pub none_some : {X : Type 0} (x : X) → None ≡ Some x → ⊥
none_some x h = cc

pub is_either : (b : Bool) → (b ≡ true) ⊎ (b ≡ false)
is_either true = inl refl
is_either false = inr refl

pub both_false : (b : Bool) → b ≡ true → b ≡ false → ⊥
both_false b h k = cc

pub or_true : (a b : Bool) → (a || b) ≡ true → (a ≡ true) ⊎ (b ≡ true)
or_true true b h = inl refl
or_true false b h = inr h

pub or_left : (a b : Bool) → a ≡ true → (a || b) ≡ true
or_left a b h = ap (λ x. x || b) h

pub or_right : (a b : Bool) → b ≡ true → (a || b) ≡ true
or_right true b h = refl
or_right false b h = h

pub or_false : (a b : Bool) → (a || b) ≡ false → (a ≡ false) × (b ≡ false)
or_false true b h = cc
or_false false b h = (refl, h)

pub and_first : (a b : Bool) → (a && b) ≡ true → a ≡ true
and_first true b t = refl
and_first false b t = t

pub and_both : (a b : Bool) → (a && b) ≡ true → (a ≡ true) × (b ≡ true)
and_both true b h = (refl, h)
and_both false b h = cc

pub and_not : (a b : Bool) → (a && not b) ≡ true → (a ≡ true) × (b ≡ false)
and_not true true h = cc
and_not true false h = (refl, refl)
and_not false b h = cc

pub and_not_false : (a b : Bool) → (a && not b) ≡ false → a ≡ true → b ≡ true
and_not_false true true h e = refl
and_not_false true false h e = cc
and_not_false false b h e = cc

module _ {V : Type 0} where
  pub put_same : (f : ℕ → V) (p : ℕ) (v : V) → put f p v p ≡ v
  put_same f p v = ap (λ (t : Bool). if t then v else f p) (eq-eqb p p refl)

  pub put_other : (f : ℕ → V) (p q : ℕ) (v : V) → q ≢ p → put f p v q ≡ f q
  put_other f p q v h = ap (λ (t : Bool). if t then v else f q) (ne_eqb q p h)

-- two numbers are equal or not
pub same_or : (a b : ℕ) → (a ≡ b) ⊎ (a ≢ b)
same_or a b = ⊎_elim (λ h. inl h.1) (λ h. inr h.1) (eqb_tells a b)

-- the least member
pub record IsLeast (s : Pages) (first p count : ℕ) : Type 0 where
  pub from : first ≤ p
  pub inside : p < first + count
  pub holds : s p ≡ true
  pub below : (q : ℕ) → first ≤ q → q < p → s q ≡ false

pub least_found : (s : Pages) (first count p : ℕ) → least s first count ≡ Some p
    → IsLeast s first p count
unfolding least
least_found s first zero p h = absurd (none_some p h)
least_found s first (suc count) p h =
    elim (s first) as
    (λ t. s first ≡ t → (if t then Some first else least s (suc first) count) ≡ Some p
    → IsLeast s first p (suc count)) [
      | true ↦ λ here h. let e : first ≡ p = some_is first p h in
          record {
            from = omega arith;
            inside = omega arith;
            holds = subst
                (λ x. s x ≡ true) e here;
            below = λ q a b. absurd (omega arith);
          }
      | false ↦ λ here h. let r = least_found s (suc first) count p h in
          record {
            from = omega (arith, r.from);
            inside = omega (arith, r.inside);
            holds = r.holds;
            below = λ q a b. ⊎_elim (λ (e : q ≡ first). subst (λ x. s x ≡ false) (sym e) here)
                (λ ne. r.below q (omega (arith, ne)) b) (same_or q first);
          }
    ] refl h

pub least_none : (s : Pages) (first count : ℕ) → least s first count ≡ None → (q : ℕ) → first ≤ q
    → q < first + count → s q ≡ false
unfolding least
least_none s first zero h q a b = absurd (omega arith)
least_none s first (suc count) h q a b =
    elim (s first) as
    (λ t. s first ≡ t → (if t then Some first else least s (suc first) count) ≡ None
    → s q ≡ false) [
      | true ↦ λ here h. absurd (none_some first (sym h))
      | false ↦
          λ here h. ⊎_elim (λ (e : q ≡ first). subst (λ x. s x ≡ false) (sym e) here)
          (λ ne. least_none s (suc first) count h q (omega (arith, ne)) (omega arith))
          (same_or q first)
    ] refl h

pub size_none : (s : Pages) (n : ℕ) → size s n ≡ 0 → (q : ℕ) → q < n → s q ≡ false
unfolding size
size_none s zero h q lt = absurd (omega arith)
size_none s (suc n) h q lt =
    elim (s n) as (λ t. s n ≡ t → ((if t then 1 else 0) + size s n) ≡ 0 → s q ≡ false) [
      | true ↦ λ here h. absurd (omega arith)
      | false ↦
          λ here h. ⊎_elim (λ (e : q ≡ n). subst (λ x. s x ≡ false) (sym e) here)
          (λ ne. size_none s n (omega arith) q (omega (arith, ne))) (same_or q n)
    ] refl h

pub listed_length : {V : Type 0} (f : ℕ → V) (first count : ℕ)
    → length (listed f first count) ≡ count
unfolding listed
listed_length f first zero = refl
listed_length f first (suc count) = ap suc (listed_length f (suc first) count)

pub listed_at : {V : Type 0} (f : ℕ → V) (d : V) (first count p : ℕ) → p < count
    → get_or (listed f first count) p d ≡ f (first + p)
unfolding listed
listed_at f d first zero p h = absurd (omega arith)
listed_at f d first (suc count) zero h = ap f (sym (add-zero first))
listed_at f d first (suc count) (suc p) h =
    let e : suc first + p ≡ first + suc p = omega arith in listed_at f d (suc first) count p
    (omega arith) ∙ ap f e
