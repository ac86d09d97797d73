-- The test that tells all rows apart, and what follows of it.
use Rattle.std.proofs.Common.{◌≡◌, ℕ, zero, suc, Bool, true, false, not, ◌&&◌, eqb, eq-eqb, eqb-true, List, [], ◌∷◌, Option, Some, None, find, option_map, bit_and, refl, sym, ap, ◌∙◌, arith, Contains, AllPairs, All, ◌⊎◌, inl, inr}
use Rattle.std.specs.List.{list_all}
use Rattle.std.proofs.lemmas.Nat.{and_assoc, and_comm}
use Rattle.std.proofs.lemmas.List.Kept.{AllPairs-cons}
use Rattle.std.proofs.lemmas.List.Elements.{All-nil, All-cons, All-contains}
use Rattle.rvm_isa.specs.declared.ins.Ins.{Ins}
use Rattle.rvm_isa.specs.Table.{Row, table, has_row, row_of, decoded, ins_of}
use Rattle.rvm_isa.specs.Laws.{HasRow, NoWordHasTwoRows, IsDecodedByItsRow}

-- two rows differ in a bit under both masks
abbrev apart : Row → Row → Bool
apart r s = not (eqb (bit_and r.bits s.mask) (bit_and s.bits r.mask))

-- any two of the rows do
abbrev all_apart : List Row → Bool
all_apart [] = true
all_apart (r ∷ rows) = list_all (apart r) rows && all_apart rows

-- a word that has both rows would have both bits
never_both : (r s : Row) → apart r s ≡ true → (w : ℕ) → HasRow w r → HasRow w s → ⊥
never_both r s test w p q =
    let e : bit_and r.bits s.mask ≡ bit_and s.bits r.mask =
    ap (λ b. bit_and b s.mask) (sym p)
    ∙ and_assoc s.mask w r.mask
    ∙ ap (bit_and w) (and_comm r.mask s.mask)
    ∙ sym (and_assoc r.mask w s.mask)
    ∙ ap (λ b. bit_and b r.mask) q in
    let t = eq-eqb (bit_and r.bits s.mask) (bit_and s.bits r.mask) e in
    grind arith

table_apart : all_apart table ≡ true
unfolding table
table_apart = refl

-- what follows of a test that each row passes holds of each row
every : (p : Row → Bool) (P : Row → Type 0) → ((x : Row) → p x ≡ true → P x) →
    (rows : List Row) → list_all p rows ≡ true → All P rows
every p P f [] t = All-nil P
every p P f (r ∷ rows) t =
    let here : p r ≡ true = grind arith in
    let there : list_all p rows ≡ true = grind arith in
    All-cons P r rows (f r here) (every p P f rows there)

-- no word has both rows
abbrev Excludes : Row → Row → Type 0
Excludes r s = (w : ℕ) → HasRow w r → HasRow w s → ⊥

rows_apart : (rows : List Row) → all_apart rows ≡ true → AllPairs Excludes rows
rows_apart [] t = λ i j d below within. absurd (omega (arith, below, within))
rows_apart (r ∷ rows) t =
    let here : list_all (apart r) rows ≡ true = grind arith in
    let there : all_apart rows ≡ true = grind arith in
    AllPairs-cons Excludes r rows (every (apart r) (Excludes r) (never_both r) rows here) (rows_apart rows there)

pub no_word_has_two_rows : NoWordHasTwoRows
no_word_has_two_rows = rows_apart table table_apart

either : (b : Bool) → (b ≡ true) ⊎ (b ≡ false)
either true = inl refl
either false = inr refl

-- the row that is found is one of the rows, and the word has it
found : (w : ℕ) (rows : List Row) (r : Row) → find (has_row w) rows ≡ Some r →
    Contains rows r × (has_row w r ≡ true)
found w [] r e = absurd (let n : None ≡ Some r = e in cc)
found w (x ∷ xs) r e =
    elim (either (has_row w x)) [
      | inl t ↦ let same : x ≡ r = grind arith in ((zero, omega arith, same), ap (has_row w) (sym same) ∙ t)
      | inr f ↦ let rest : find (has_row w) xs ≡ Some r = grind arith in
          let h = found w xs r rest in ((suc h.0.0, omega (arith, h.0.1), h.0.2), h.1)
    ]

-- if no word has two rows, the row that a word has is found
found_only : (w : ℕ) (rows : List Row) (r : Row) → all_apart rows ≡ true → Contains rows r →
    has_row w r ≡ true → find (has_row w) rows ≡ Some r
found_only w [] r t (k, l, e) h = absurd (omega (arith, l))
found_only w (x ∷ xs) r t (zero, l, e) h =
    let same : x ≡ r = e in
    let first : has_row w x ≡ true = ap (has_row w) same ∙ h in
    grind arith
found_only w (x ∷ xs) r t (suc k, l, e) h =
    let inside : Contains xs r = (k, omega (arith, l), e) in
    let here : list_all (apart x) xs ≡ true = grind arith in
    let there : all_apart xs ≡ true = grind arith in
    let excludes = All-contains (Excludes x) xs r (every (apart x) (Excludes x) (never_both x) xs here) inside in
    elim (either (has_row w x)) [
      | inl t ↦ absurd (excludes w (eqb-true _ _ t) (eqb-true _ _ h))
      | inr f ↦ let rest = found_only w xs r there inside h in grind arith
    ]

option_map_some : (w : ℕ) (i : Ins) → (o : Option Row) →
    option_map (λ s. ins_of s.shape w) o ≡ Some i →
    (r : Row) × (o ≡ Some r) × (ins_of r.shape w ≡ i)
option_map_some w i None e = absurd (let n : None ≡ Some i = e in cc)
option_map_some w i (Some r) e = (r, refl, (let s : Some (ins_of r.shape w) ≡ Some i = e in cc))

pub decoded_by_row : IsDecodedByItsRow
unfolding decoded row_of
decoded_by_row w i = (
  λ e. (let o = option_map_some w i (find (has_row w) table) e in
      let h = found w table o.0 o.1 in (o.0, h.0, eqb-true _ _ h.1, o.2)),
  λ (r, inside, has, is). ap (option_map (λ s. ins_of s.shape w)) (found_only w table r table_apart inside (eq-eqb _ _ has)) ∙ ap Some is,
)
