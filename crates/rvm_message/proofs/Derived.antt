-- A derived `==` tells any two values apart if the `==` of each field does.
use Rattle.std.specs.Prelude.{◌≡◌, refl, Bool, true, false, ◌&&◌, List, [], ◌∷◌, Decides}
use mathlib.Core.Path.{ap, sym, subst}
use mathlib.Core.Bool.{true≢false}
use mathlib.Core.Logic.{◌⊎◌, inl, inr}
use denote.Struct.Field.{Field}
use denote.Enum.Declared.{Record, left_or, right_or, values_one}
use denote.Enum.Compared.{Each, by}

-- a test that tells any two values apart
abbrev pub TellsApart : {K : Type 0} → (K → K → Bool) → Type 0
TellsApart {K} E = (x y : K) → Decides (E x y) (x ≡ y)

-- the result of such a test decides whether two values are equal
pub told_apart : {K : Type 0} {E : K → K → Bool} → TellsApart E → (r : Bool) (x y : K) → r ≡ E x y → Decides r (x ≡ y)
told_apart s r x y e = subst (λ (t : Bool). Decides t (x ≡ y)) (sym e) (s x y)

-- no field
pub no_field : TellsApart (λ (x y : Unit {0}). true)
no_field x y = (λ h. refl, λ e. refl)

-- one field
pub one_field : {A : Type 0} {E : A → A → Bool} → TellsApart E → TellsApart (λ (x y : A × Unit {0}). E x.0 y.0)
one_field s x y = (λ h i. ((s x.0 y.0).0 h i, tt), λ e. (s x.0 y.0).1 (ap (λ p. p.0) e))

-- several fields
both_true : (s t : Bool) → (s && t) ≡ true → (s ≡ true) × (t ≡ true)
both_true true t h = (refl, h)
both_true false t h = absurd (true≢false (sym h))

pub both : {A B : Type 0} {E : A → A → Bool} {F : B → B → Bool} → TellsApart E → TellsApart F → TellsApart (λ (x y : A × B). E x.0 y.0 && F x.1 y.1)
both {A} {B} {E} {F} s t x y = (
  λ h. let p = both_true (E x.0 y.0) (F x.1 y.1) h in λ i. ((s x.0 y.0).0 p.0 i, (t x.1 y.1).0 p.1 i),
  λ e i. (s x.0 y.0).1 (ap (λ p. p.0) e) i && (t x.1 y.1).1 (ap (λ p. p.1) e) i,
)

-- the values of each variant are told apart
abbrev pub EachApart : (Fss : List (List Field)) → Each Bool Fss → Type 0
EachApart [] es = Unit {0}
EachApart (Fs ∷ Fss) es = TellsApart es.0 × EachApart Fss es.1

abbrev IsLeft : {A B : Type 0} → A ⊎ B → Type 0
IsLeft (inl x) = Unit {0}
IsLeft (inr y) = ⊥

choices_apart : (Fss : List (List Field)) (es : Each Bool Fss) → EachApart Fss es → TellsApart (by false false Fss es)
choices_apart [] es all c d = absurd c
choices_apart (Fs ∷ Fss) es all (inl x) (inl y) = (λ h. ap inl ((all.0 x y).0 h), λ e. (all.0 x y).1 (ap (left_or x) e))
choices_apart (Fs ∷ Fss) es all (inl x) (inr d) = (λ h. absurd (true≢false (sym h)), λ e. absurd (subst IsLeft e tt))
choices_apart (Fs ∷ Fss) es all (inr c) (inl y) = (λ h. absurd (true≢false (sym h)), λ e. absurd (subst IsLeft (sym e) tt))
choices_apart (Fs ∷ Fss) es all (inr c) (inr d) = let s = choices_apart Fss es.1 all.1 c d in (λ h. ap inr (s.0 h), λ e. s.1 (ap (right_or c) e))

-- an enum with these variants
pub variants_apart : (N : Record) (es : Each Bool N.parts) → EachApart N.parts es → TellsApart (λ x y. by false false N.parts es (N.as_values x) (N.as_values y))
variants_apart N es all x y = let s = choices_apart N.parts es all (N.as_values x) (N.as_values y) in (λ h. values_one N x y (s.0 h), λ e. s.1 (ap N.as_values e))
