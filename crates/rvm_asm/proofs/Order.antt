-- Pieces that rise by address.
use Rattle.std.proofs.Common.{◌≡◌, ℕ, zero, suc, ◌+◌, ◌<◌, ◌≤◌, List, [], ◌∷◌, ◌++◌, length, get_or, refl, ap, sym, ◌∙◌, Option, Some, None, arith, subst, ⊎_elim, length-append}
use Rattle.std.specs.Prelude.{All}
use Rattle.std.proofs.lemmas.List.{map_push}
use Rattle.std.proofs.lemmas.List.Elements.{All-cons}
use Rattle.std.proofs.str.Laws.{order}
use Rattle.rvm_asm.specs.declared.image.Segment.{Segment}
use Rattle.rvm_asm.specs.Images.{Piece, piece, size, in_piece, byte_at, or_else, piece_of, pieces_of, IsRising}
use Rattle.rvm_asm.specs.Pieces.{IsFree, AreOrdered, end_of}
use Rattle.rvm_asm.specs.Views.{HasNoZeros}
use Rattle.rvm_asm.proofs.Bytes.{inside}

-- farther apart than asked
pub weaker : (gap lo less low : ℕ) (ps : List Piece) → less ≤ gap → low ≤ lo → AreOrdered gap lo ps → AreOrdered less low ps
unfolding AreOrdered
weaker gap lo less low [] g l o = tt
weaker gap lo less low (p ∷ ps) g l o =
    (omega (arith, o.0), o.1, o.2, weaker gap (p.address + length p.bytes + gap) less (p.address + length p.bytes + less) ps g (omega arith) o.3)

-- a piece after the others
pub push_ordered : (gap lo : ℕ) (ps : List Piece) (p : Piece) → AreOrdered gap lo ps → end_of gap lo ps ≤ p.address → 0 < length p.bytes → p.zeros ≡ 0 → AreOrdered gap lo (ps ++ p ∷ [])
unfolding AreOrdered end_of
push_ordered gap lo [] p o e n z = (e, n, z, tt)
push_ordered gap lo (q ∷ qs) p o e n z = (o.0, o.1, o.2, push_ordered gap (q.address + length q.bytes + gap) qs p o.3 e n z)

-- the pieces before one, and what holds of that one
pub split_ordered : (gap lo : ℕ) (ps : List Piece) (p : Piece) (qs : List Piece) → AreOrdered gap lo (ps ++ p ∷ qs) → AreOrdered gap lo ps × (end_of gap lo ps ≤ p.address) × (0 < length p.bytes) × (p.zeros ≡ 0)
unfolding AreOrdered end_of
split_ordered gap lo [] p qs o = (tt, o.0, o.1, o.2)
split_ordered gap lo (r ∷ rs) p qs o =
    let t = split_ordered gap (r.address + length r.bytes + gap) rs p qs o.3 in
    ((o.0, o.1, o.2, t.0), t.1, t.2, t.3)

pub end_push : (gap lo : ℕ) (ps : List Piece) (p : Piece) → end_of gap lo (ps ++ p ∷ []) ≡ p.address + length p.bytes + gap
unfolding end_of
end_push gap lo [] p = refl
end_push gap lo (q ∷ qs) p = end_push gap (q.address + length q.bytes + gap) qs p

-- pieces of segments of which the last is given
with_last : (all rest : List Segment) (last : Segment) → all ≡ rest ++ last ∷ [] → pieces_of all ≡ pieces_of rest ++ piece_of last ∷ []
with_last all rest last e = ap pieces_of e ∙ map_push piece_of rest last

-- where they end
pub end_last : (gap : ℕ) (all rest : List Segment) (last : Segment) → all ≡ rest ++ last ∷ [] → end_of gap 0 (pieces_of all) ≡ last.address + length last.bytes.items + gap
end_last gap all rest last e = ap (end_of gap 0) (with_last all rest last e) ∙ end_push gap 0 (pieces_of rest) (piece_of last)

pub ends_at : (all rest : List Segment) (last : Segment) (address : ℕ) (bs : List ℕ) → all ≡ rest ++ last ∷ [] → last.address + length last.bytes.items ≡ address + length bs → end_of 0 0 (pieces_of all) ≡ address + length bs
ends_at all rest last address bs e at = omega (arith, end_last 0 all rest last e, at)

split_last : (gap : ℕ) (all rest : List Segment) (last : Segment) → all ≡ rest ++ last ∷ [] → AreOrdered gap 0 (pieces_of all) → AreOrdered gap 0 (pieces_of rest) × (end_of gap 0 (pieces_of rest) ≤ last.address) × (0 < length last.bytes.items) × (last.zeros ≡ 0)
split_last gap all rest last e o = split_ordered gap 0 (pieces_of rest) (piece_of last) [] (subst (AreOrdered gap 0) (with_last all rest last e) o)

pub last_zeros : (gap : ℕ) (all rest : List Segment) (last : Segment) → all ≡ rest ++ last ∷ [] → AreOrdered gap 0 (pieces_of all) → last.zeros ≡ 0
last_zeros gap all rest last e o = (split_last gap all rest last e o).3

-- the last segment is longer
pub longer_ordered : (gap : ℕ) (old rest new : List Segment) (last longest : Segment) (bs : List ℕ) → old ≡ rest ++ last ∷ [] → new ≡ rest ++ longest ∷ [] → piece_of longest ≡ piece last.address (last.bytes.items ++ bs) → AreOrdered gap 0 (pieces_of old) → AreOrdered gap 0 (pieces_of new)
longer_ordered gap old rest new last longest bs e f is o =
    let s = split_last gap old rest last e o in
    subst (AreOrdered gap 0) (sym (with_last new rest longest f))
    (subst (λ p. AreOrdered gap 0 (pieces_of rest ++ p ∷ [])) (sym is)
    (push_ordered gap 0 (pieces_of rest) (piece last.address (last.bytes.items ++ bs)) s.0 s.1 (omega (arith, length-append last.bytes.items bs, s.2)) refl))

-- a segment after the others
pub next_ordered : (gap : ℕ) (old mid new : List Segment) (s : Segment) → old ≡ mid → new ≡ mid ++ s ∷ [] → end_of gap 0 (pieces_of old) ≤ s.address → 0 < length s.bytes.items → s.zeros ≡ 0 → AreOrdered gap 0 (pieces_of old) → AreOrdered gap 0 (pieces_of new)
next_ordered gap old mid new s e f low n z o =
    subst (AreOrdered gap 0) (sym (with_last new mid s f))
    (push_ordered gap 0 (pieces_of mid) (piece_of s) (subst (λ l. AreOrdered gap 0 (pieces_of l)) e o) (subst (λ l. end_of gap 0 (pieces_of l) ≤ s.address) e low) n z)

no_segments : (old mid : List Segment) → old ≡ mid ++ [] → length old ≡ 0 → mid ≡ []
no_segments old [] e n = refl
no_segments old (s ∷ ss) e n = absurd (let f : length (s ∷ ss ++ []) ≡ 0 = ap length (sym e) ∙ n in omega (arith, f))

-- the first segment
pub first_ordered : (gap : ℕ) (old mid new : List Segment) (s : Segment) → old ≡ mid ++ [] → length old ≡ 0 → new ≡ mid ++ s ∷ [] → 0 < length s.bytes.items → s.zeros ≡ 0 → AreOrdered gap 0 (pieces_of new)
unfolding AreOrdered end_of
first_ordered gap old mid new s e none f n z = next_ordered gap [] mid new s (sym (no_segments old mid e none)) f (omega arith) n z tt

-- no piece
pub none_ordered : (gap : ℕ) (ps : List Piece) → ps ≡ [] → AreOrdered gap 0 ps
unfolding AreOrdered
none_ordered gap ps e = subst (AreOrdered gap 0) (sym e) tt

-- none has zeros after its bytes
pub no_zeros : (gap lo : ℕ) (ss : List Segment) → AreOrdered gap lo (pieces_of ss) → All HasNoZeros ss
unfolding AreOrdered
no_zeros gap lo [] o = λ k d l. absurd (omega (arith, l))
no_zeros gap lo (s ∷ ss) o = All-cons HasNoZeros s ss o.2 (no_zeros gap (s.address + length s.bytes.items + gap) ss o.3)

some_at : (gap lo : ℕ) (ps : List Piece) (i : ℕ) → AreOrdered gap lo ps → i < length ps → 0 < size (get_or ps i (piece 0 []))
unfolding AreOrdered
some_at gap lo [] i o h = absurd (omega (arith, h))
some_at gap lo (p ∷ ps) zero o h = omega (arith, o.1)
some_at gap lo (p ∷ ps) (suc i) o h = some_at gap (p.address + length p.bytes + gap) ps i o.3 (omega (arith, h))

apart_at : (lo : ℕ) (ps : List Piece) (i j : ℕ) → j ≡ i + 1 → AreOrdered 1 lo ps → j < length ps → (get_or ps i (piece 0 [])).address + size (get_or ps i (piece 0 [])) < (get_or ps j (piece 0 [])).address
unfolding AreOrdered
apart_at lo [] i j e o h = absurd (omega (arith, h))
apart_at lo (p ∷ ps) i zero e o h = absurd (omega (arith, e))
apart_at lo (p ∷ []) zero (suc j) e o h = absurd (omega (arith, h))
apart_at lo (p ∷ q ∷ qs) zero (suc zero) e o h = omega (arith, o.2, o.3.0)
apart_at lo (p ∷ q ∷ qs) zero (suc (suc j)) e o h = absurd (omega (arith, e))
apart_at lo (p ∷ ps) (suc i) (suc j) e o h = apart_at (p.address + length p.bytes + 1) ps i j (omega (arith, e)) o.3 (omega (arith, h))

-- they rise and do not touch
pub rising : (lo : ℕ) (ps : List Piece) → AreOrdered 1 lo ps → IsRising ps
rising lo ps o = record {
  some = λ i h. some_at 1 lo ps i o h;
  apart = λ i h. apart_at lo ps i (i + 1) refl o h;
}

none_first : (x y : Option ℕ) → or_else x y ≡ None → x ≡ None
none_first None y e = refl
none_first (Some x) y e = cc

none_second : (x y : Option ℕ) → or_else x y ≡ None → y ≡ None
none_second None y e = e
none_second (Some x) y e = cc

some_none : (x : ℕ) (o : Option ℕ) → o ≡ None → o ≡ Some x → ⊥
some_none x o e f = cc

pub free_tail : (p : Piece) (ps : List Piece) (place count : ℕ) → IsFree (p ∷ ps) place count → IsFree ps place count
free_tail p ps place count free a low high = none_first (byte_at ps a) (in_piece p a) (free a low high)

-- a piece that begins at a free place or before ends there or before
pub ends_before : (p : Piece) (ps : List Piece) (place count : ℕ) → IsFree (p ∷ ps) place count → 0 < count → p.address ≤ place → p.address + length p.bytes ≤ place
ends_before p ps place count free some low =
    ⊎_elim (λ h. absurd (some_none _ _ (none_second (byte_at ps place) (in_piece p place) (free place (omega arith) (omega arith))) (inside p place low (omega arith)))) (λ h. h) (order place (p.address + length p.bytes))

-- a piece that begins at a free place or after it begins after all that are free
pub begins_from : (p : Piece) (ps : List Piece) (place count : ℕ) → IsFree (p ∷ ps) place count → 0 < length p.bytes → place ≤ p.address → place + count ≤ p.address
begins_from p ps place count free some high =
    ⊎_elim (λ h. absurd (some_none _ _ (none_second (byte_at ps p.address) (in_piece p p.address) (free p.address high h)) (inside p p.address (omega arith) (omega arith)))) (λ h. h) (order p.address (place + count))
