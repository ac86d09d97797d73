-- Extents by their addresses.
use Rattle.std.proofs.Common.{◌≡◌, ℕ, ◌+◌, ◌<◌, ◌≤◌, List, [], ◌∷◌, ◌++◌, length, refl, ap, sym, ◌∙◌, arith, subst, inl, inr, ⊎_elim}
use Rattle.std.specs.Prelude.{◌⊎◌, Bool, true, false, map, if◌then◌else◌}
use Rattle.std.specs.declared.cmp.Ordering.{Ordering}
use Rattle.std.specs.declared.cmp.Ordering.TheVariants.{Less, Greater}
use Rattle.std.specs.declared.ops.Bound.TheVariants.{Included, Unbounded}
use Rattle.std.specs.BTreeMap.{insert_entry}
use Rattle.std.specs.BTreeMap.Range.{entries_between, range_contains}
use Rattle.std.specs.Cmp.{nat_cmp_is}
use Rattle.std.specs.Ordering.{nat_cmp, match_ordering}
use Rattle.std.proofs.lemmas.Bool.Decides.{nat_tests}
use Rattle.std.proofs.str.Laws.{order}
use Rattle.rvm_asm.specs.Images.{Piece, piece, size, in_piece, byte_at, or_else}
use Rattle.rvm_asm.specs.declared.extents.Extent.{Extent}
use Rattle.rvm_asm.specs.Pieces.{IsFree, IsTaken, Joins, AreOrdered}
use Rattle.rvm_asm.specs.Views.{extent_piece, extent_pieces, AreExtents, Extents, Holds, IsExtent}
use Rattle.rvm_asm.proofs.Bytes.{apart_at, apart_before, apart_behind, free_more, none_in_empty, or_assoc, or_none, plain_size, swap, taken_first, taken_from, taken_into, taken_more}
use Rattle.rvm_asm.proofs.Order.{begins_from, ends_before, free_tail}

abbrev pub Entry : Type 0
Entry = ℕ × Extent

-- whether an entry begins at an address or below it
abbrev begins_by : (last q : ℕ) → Bool
begins_by last q = range_contains nat_cmp Unbounded (Included last) q

-- the entries that do
abbrev pub up_to : ℕ → List Entry → List Entry
up_to last es = entries_between nat_cmp Unbounded (Included last) es

by_or_behind : (last q : ℕ) → ((begins_by last q ≡ true) × (q ≤ last)) ⊎ ((begins_by last q ≡ false) × (last < q))
by_or_behind last q = ⊎_elim (λ behind. inr (grind (arith, nat_tests), behind)) (λ by. inl (grind (arith, nat_tests), by)) (order last q)

with_first : (last : ℕ) (e : Entry) (es : List Entry) → begins_by last e.0 ≡ true → up_to last (e ∷ es) ≡ e ∷ up_to last es
with_first last e es is = ap (λ (b : Bool). if b then e ∷ up_to last es else up_to last es) is

without_first : (last : ℕ) (e : Entry) (es : List Entry) → begins_by last e.0 ≡ false → up_to last (e ∷ es) ≡ up_to last es
without_first last e es is = ap (λ (b : Bool). if b then e ∷ up_to last es else up_to last es) is

none_last : (t : List Entry) (e : Entry) → [] ≡ t ++ e ∷ [] → ⊥
none_last [] e is = cc
none_last (x ∷ t) e is = cc

-- an entry before all others, and one after the first
put_first : (e : Entry) (es : List Entry) (a : ℕ) (v : Extent) → a < e.0 → insert_entry nat_cmp (e ∷ es) a v ≡ (a, v) ∷ e ∷ es
put_first e es a v h = ap (λ (r : Ordering). match_ordering r ((a, v) ∷ e ∷ es) ((e.0, v) ∷ es) (e ∷ insert_entry nat_cmp es a v)) (sym (nat_cmp_is a e.0 Less h))

put_later : (e : Entry) (es : List Entry) (a : ℕ) (v : Extent) → e.0 < a → insert_entry nat_cmp (e ∷ es) a v ≡ e ∷ insert_entry nat_cmp es a v
put_later e es a v h = ap (λ (r : Ordering). match_ordering r ((a, v) ∷ e ∷ es) ((e.0, v) ∷ es) (e ∷ insert_entry nat_cmp es a v)) (sym (nat_cmp_is a e.0 Greater h))

module _ (bytes : ℕ → List ℕ) where
  -- what entries stand for
  abbrev pub pieces : List Entry → List Piece
  pieces es = map (extent_piece bytes) es

  -- no segment begins before this many places end
  pub none_up_to : (last place count : ℕ) (es : List Entry) → up_to last es ≡ [] → place + count ≤ last + 1 → IsFree (pieces es) place count
  none_up_to last place count [] is end = λ a low high. refl
  none_up_to last place count (e ∷ es) is end =
      ⊎_elim
      (λ h. absurd (let f : e ∷ up_to last es ≡ [] = sym (with_first last e es h.0) ∙ is in cc))
      (λ h. free_more (extent_piece bytes e) (pieces es) place count (apart_behind (extent_piece bytes e) place count (omega (arith, h.1, end)))
      (none_up_to last place count es (sym (without_first last e es h.0) ∙ is) end))
      (by_or_behind last e.0)

  -- the last that begins by an address begins where the first one may, or after it
  least : (lo last : ℕ) (es t : List Entry) (e : Entry) → AreOrdered 0 lo (pieces es) → up_to last es ≡ t ++ e ∷ [] → lo ≤ e.0
  unfolding AreOrdered
  least lo last [] t e o is = absurd (none_last t e is)
  least lo last (x ∷ xs) [] e o is =
      ⊎_elim
      (λ h. let same : x ≡ e = (let f : x ∷ up_to last xs ≡ e ∷ [] = sym (with_first last x xs h.0) ∙ is in cc) in subst (λ (d : Entry). lo ≤ d.0) same o.0)
      (λ h. omega (arith, o.0, least (x.0 + length (bytes x.1.line) + 0) last xs [] e o.3 (sym (without_first last x xs h.0) ∙ is)))
      (by_or_behind last x.0)
  least lo last (x ∷ xs) (y ∷ t) e o is =
      ⊎_elim
      (λ h. omega (arith, o.0, least (x.0 + length (bytes x.1.line) + 0) last xs t e o.3 (let f : x ∷ up_to last xs ≡ y ∷ (t ++ e ∷ []) = sym (with_first last x xs h.0) ∙ is in cc)))
      (λ h. omega (arith, o.0, least (x.0 + length (bytes x.1.line) + 0) last xs (y ∷ t) e o.3 (sym (without_first last x xs h.0) ∙ is)))
      (by_or_behind last x.0)

  -- the last that begins before this many places end ends before them
  pub last_ends : (lo last place count : ℕ) (es t : List Entry) (e : Entry) → AreOrdered 0 lo (pieces es) → up_to last es ≡ t ++ e ∷ [] → place + count ≤ last + 1 → e.0 + length (bytes e.1.line) ≤ place → IsFree (pieces es) place count
  unfolding AreOrdered
  last_ends lo last place count [] t e o is end ends = absurd (none_last t e is)
  last_ends lo last place count (x ∷ xs) [] e o is end ends =
      ⊎_elim
      (λ h.
      let f : x ∷ up_to last xs ≡ e ∷ [] = sym (with_first last x xs h.0) ∙ is in
      let same : x ≡ e = cc in
      free_more (extent_piece bytes x) (pieces xs) place count
      (apart_before (extent_piece bytes x) place count (subst (λ (d : Entry). d.0 + size (extent_piece bytes d) ≤ place) (sym same) (omega (arith, ends))))
      (none_up_to last place count xs (let g : up_to last xs ≡ [] = cc in g) end))
      (λ h. free_more (extent_piece bytes x) (pieces xs) place count (apart_behind (extent_piece bytes x) place count (omega (arith, h.1, end)))
      (last_ends (x.0 + length (bytes x.1.line) + 0) last place count xs [] e o.3 (sym (without_first last x xs h.0) ∙ is) end ends))
      (by_or_behind last x.0)
  last_ends lo last place count (x ∷ xs) (y ∷ t) e o is end ends =
      ⊎_elim
      (λ h.
      let f : x ∷ up_to last xs ≡ y ∷ (t ++ e ∷ []) = sym (with_first last x xs h.0) ∙ is in
      let g : up_to last xs ≡ t ++ e ∷ [] = cc in
      free_more (extent_piece bytes x) (pieces xs) place count
      (apart_before (extent_piece bytes x) place count (omega (arith, ends, least (x.0 + length (bytes x.1.line) + 0) last xs t e o.3 g)))
      (last_ends (x.0 + length (bytes x.1.line) + 0) last place count xs t e o.3 g end ends))
      (λ h. free_more (extent_piece bytes x) (pieces xs) place count (apart_behind (extent_piece bytes x) place count (omega (arith, h.1, end)))
      (last_ends (x.0 + length (bytes x.1.line) + 0) last place count xs (y ∷ t) e o.3 (sym (without_first last x xs h.0) ∙ is) end ends))
      (by_or_behind last x.0)

  -- a piece that begins before this many places end, and ends after the first
  taken_one : (p : Piece) (place count : ℕ) → 0 < count → 0 < size p → p.address < place + count → place < p.address + size p → IsTaken (p ∷ []) place count
  taken_one p place count some bytes begins ends =
      ⊎_elim (λ h. taken_into p place count bytes (omega (arith, h)) begins) (λ h. taken_from p place count some h ends) (order place p.address)

  -- the last that begins before this many places end does not end before them
  pub last_takes : (lo last place count : ℕ) (es t : List Entry) (e : Entry) → AreOrdered 0 lo (pieces es) → up_to last es ≡ t ++ e ∷ [] → 0 < count → last < place + count → place < e.0 + length (bytes e.1.line) → IsTaken (pieces es) place count
  unfolding AreOrdered
  last_takes lo last place count [] t e o is some end past = absurd (none_last t e is)
  last_takes lo last place count (x ∷ xs) [] e o is some end past =
      ⊎_elim
      (λ h.
      let f : x ∷ up_to last xs ≡ e ∷ [] = sym (with_first last x xs h.0) ∙ is in
      let same : x ≡ e = cc in
      taken_first (extent_piece bytes x) (pieces xs) place count
      (taken_one (extent_piece bytes x) place count some (omega (arith, o.1)) (omega (arith, h.1, end)) (subst (λ (d : Entry). place < d.0 + size (extent_piece bytes d)) (sym same) (omega (arith, past)))))
      (λ h. taken_more (extent_piece bytes x) (pieces xs) place count (last_takes (x.0 + length (bytes x.1.line) + 0) last place count xs [] e o.3 (sym (without_first last x xs h.0) ∙ is) some end past))
      (by_or_behind last x.0)
  last_takes lo last place count (x ∷ xs) (y ∷ t) e o is some end past =
      taken_more (extent_piece bytes x) (pieces xs) place count
      (⊎_elim
      (λ h. last_takes (x.0 + length (bytes x.1.line) + 0) last place count xs t e o.3 (let f : x ∷ up_to last xs ≡ y ∷ (t ++ e ∷ []) = sym (with_first last x xs h.0) ∙ is in cc) some end past)
      (λ h. last_takes (x.0 + length (bytes x.1.line) + 0) last place count xs (y ∷ t) e o.3 (sym (without_first last x xs h.0) ∙ is) some end past)
      (by_or_behind last x.0))

  -- segments of which none has a byte in this many places begin after them
  freed : (place count : ℕ) (es : List Entry) → AreOrdered 0 place (pieces es) → IsFree (pieces es) place count → AreOrdered 0 (place + count) (pieces es)
  unfolding AreOrdered
  freed place count [] o free = tt
  freed place count (e ∷ es) o free = (begins_from (extent_piece bytes e) (pieces es) place count free o.1 o.0, o.1, o.2, o.3)

  -- a segment more, where no byte stands
  pub inserted_joins : (lo a : ℕ) (es : List Entry) (v : Extent) → AreOrdered 0 lo (pieces es) → IsFree (pieces es) a (length (bytes v.line)) → 0 < length (bytes v.line) → Joins (pieces es) (pieces (insert_entry nat_cmp es a v)) (piece a (bytes v.line))
  unfolding AreOrdered
  inserted_joins lo a [] v o free some = λ x. sym (or_none (in_piece (piece a (bytes v.line)) x))
  inserted_joins lo a (e ∷ es) v o free some =
      ⊎_elim
      (λ low. λ x.
      ap (λ l. byte_at (pieces l) x) (put_first e es a v low)
      ∙ sym (swap (in_piece (piece a (bytes v.line)) x) (byte_at (pieces (e ∷ es)) x) (apart_at (piece a (bytes v.line)) (pieces (e ∷ es)) x (subst (IsFree (pieces (e ∷ es)) a) (sym (plain_size a (bytes v.line))) free))))
      (λ high. λ x.
      ap (λ l. byte_at (pieces l) x) (put_later e es a v (omega (arith, o.1, ends_before (extent_piece bytes e) (pieces es) a (length (bytes v.line)) free some high)))
      ∙ ap (λ y. or_else y (in_piece (extent_piece bytes e) x)) (inserted_joins (e.0 + length (bytes e.1.line) + 0) a es v o.3 (free_tail (extent_piece bytes e) (pieces es) a (length (bytes v.line)) free) some x)
      ∙ sym (or_assoc (in_piece (piece a (bytes v.line)) x) (byte_at (pieces es) x) (in_piece (extent_piece bytes e) x)))
      (order a e.0)

  pub inserted_ordered : (lo a : ℕ) (es : List Entry) (v : Extent) → AreOrdered 0 lo (pieces es) → IsFree (pieces es) a (length (bytes v.line)) → 0 < length (bytes v.line) → lo ≤ a → AreOrdered 0 lo (pieces (insert_entry nat_cmp es a v))
  unfolding AreOrdered
  inserted_ordered lo a [] v o free some low = (low, some, refl, tt)
  inserted_ordered lo a (e ∷ es) v o free some low =
      ⊎_elim
      (λ before.
      let behind = freed a (length (bytes v.line)) (e ∷ es) (omega (arith, before), o.1, o.2, o.3) free in
      subst (λ l. AreOrdered 0 lo (pieces l)) (sym (put_first e es a v before)) (low, some, refl, (omega (arith, behind.0), o.1, o.2, o.3)))
      (λ high.
      let past = ends_before (extent_piece bytes e) (pieces es) a (length (bytes v.line)) free some high in
      subst (λ l. AreOrdered 0 lo (pieces l)) (sym (put_later e es a v (omega (arith, o.1, past))))
      (o.0, o.1, o.2, inserted_ordered (e.0 + length (bytes e.1.line) + 0) a es v o.3 (free_tail (extent_piece bytes e) (pieces es) a (length (bytes v.line)) free) some (omega (arith, past))))
      (order a e.0)

  -- the first entry that is left, and those after it
  pub first_left : (lo : ℕ) (e : Entry) (es all : List Entry) → all ≡ e ∷ es → AreOrdered 0 lo (pieces all) → (lo ≤ e.0) × (0 < length (bytes e.1.line)) × AreOrdered 0 (e.0 + length (bytes e.1.line)) (pieces es)
  unfolding AreOrdered
  first_left lo e es all is o =
      let l : AreOrdered 0 lo (pieces (e ∷ es)) = subst (λ l. AreOrdered 0 lo (pieces l)) is o in
      (l.0, l.1, subst (λ n. AreOrdered 0 n (pieces es)) (let f : e.0 + length (bytes e.1.line) + 0 ≡ e.0 + length (bytes e.1.line) = omega arith in f) l.3)

  -- extents of the first lines are of one line more, too
  pub extents_more : (lines : ℕ) (es : List Entry) → AreExtents bytes lines es → AreExtents bytes (lines + 1) es
  unfolding AreExtents
  extents_more lines [] x = tt
  extents_more lines (e ∷ es) x = ((omega (arith, x.0.0), x.0.1), extents_more lines es x.1)

  -- the last that begins by an address is one of them
  pub last_extent : (lines last : ℕ) (es t : List Entry) (e : Entry) → AreExtents bytes lines es → up_to last es ≡ t ++ e ∷ [] → IsExtent bytes lines e
  unfolding AreExtents
  last_extent lines last [] t e x is = absurd (none_last t e is)
  last_extent lines last (y ∷ ys) [] e x is =
      ⊎_elim
      (λ h. let same : y ≡ e = (let f : y ∷ up_to last ys ≡ e ∷ [] = sym (with_first last y ys h.0) ∙ is in cc) in subst (IsExtent bytes lines) same x.0)
      (λ h. last_extent lines last ys [] e x.1 (sym (without_first last y ys h.0) ∙ is))
      (by_or_behind last y.0)
  last_extent lines last (y ∷ ys) (z ∷ t) e x is =
      ⊎_elim
      (λ h. last_extent lines last ys t e x.1 (let f : y ∷ up_to last ys ≡ z ∷ (t ++ e ∷ []) = sym (with_first last y ys h.0) ∙ is in cc))
      (λ h. last_extent lines last ys (z ∷ t) e x.1 (sym (without_first last y ys h.0) ∙ is))
      (by_or_behind last y.0)

  -- one extent more, where no byte stands
  pub inserted_extents : (lines lo a : ℕ) (es : List Entry) (v : Extent) → AreExtents bytes lines es → AreOrdered 0 lo (pieces es) → IsFree (pieces es) a (length (bytes v.line)) → 0 < length (bytes v.line) → IsExtent bytes lines (a, v) → AreExtents bytes lines (insert_entry nat_cmp es a v)
  unfolding AreExtents AreOrdered
  inserted_extents lines lo a [] v x o free some is = (is, tt)
  inserted_extents lines lo a (e ∷ es) v x o free some is =
      ⊎_elim
      (λ before. subst (AreExtents bytes lines) (sym (put_first e es a v before)) (is, x))
      (λ high.
      let past = ends_before (extent_piece bytes e) (pieces es) a (length (bytes v.line)) free some high in
      subst (AreExtents bytes lines) (sym (put_later e es a v (omega (arith, o.1, past))))
      (x.0, inserted_extents lines (e.0 + length (bytes e.1.line) + 0) a es v x.1 o.3 (free_tail (extent_piece bytes e) (pieces es) a (length (bytes v.line)) free) some is))
      (order a e.0)

  no_bytes : (bs : List ℕ) → length bs ≡ 0 → bs ≡ []
  no_bytes [] e = refl
  no_bytes (b ∷ bs) e = absurd (omega (arith, e))

  -- a line without bytes
  pub claims_none : (line place : ℕ) (m : Extents) → Holds bytes line m → length (bytes line) ≡ 0 → IsFree (extent_pieces bytes m) place (length (bytes line)) × Joins (extent_pieces bytes m) (extent_pieces bytes m) (piece place (bytes line)) × Holds bytes (line + 1) m
  claims_none line place m held none = (
    rw none (λ a low high. absurd (let h : a < place + 0 = high in omega (arith, h, low))),
    rw (no_bytes (bytes line) none) (λ a. sym (ap (λ o. or_else o (byte_at (extent_pieces bytes m) a)) (none_in_empty place a))),
    record { each = extents_more line m.entries held.each; ordered = held.ordered },
  )

  -- the first extent that is left, and those after it
  pub extent_left : (lines : ℕ) (e : Entry) (es all : List Entry) → all ≡ e ∷ es → AreExtents bytes lines all → IsExtent bytes lines e × AreExtents bytes lines es
  unfolding AreExtents
  extent_left lines e es all is x = subst (AreExtents bytes lines) is x
