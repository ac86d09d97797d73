-- Pieces one after the other.
use Rattle.std.proofs.Common.{◌≡◌, ◌&&◌, ℕ, zero, suc, ◌<◌, ◌≤◌, ◌+◌, Bool, true, false, List, [], ◌∷◌, length, take, get_or, map, refl, sym, ap, ◌∙◌, arith}
use Rattle.std.proofs.lemmas.List.{get_or-map, length-map, take_all}
use Rattle.rvm_asm.specs.Images.{Piece, piece, piece_of, pieces_of}
use Rattle.rvm_asm.specs.declared.image.Segment.{Segment}
use Rattle.rvm_elf.specs.Load.{piece_fits, pieces_fit}

-- both are true
both : (a b : Bool) → (a && b) ≡ true → (a ≡ true) × (b ≡ true)
both true b is = (refl, is)
both false b is = cc

-- the first pieces fit, and the next one does
pub one_fits_more : (ps : List Piece) (i count : ℕ) → i < length ps → pieces_fit (take i ps) count ≡ true
    → piece_fits (get_or ps i (piece 0 [])) count ≡ true → pieces_fit (take (suc i) ps) count ≡ true
unfolding pieces_fit
one_fits_more [] i count there before fits = absurd (omega (arith, there))
one_fits_more (p ∷ ps) zero count there before fits = ap (λ b. b && true) fits
one_fits_more (p ∷ ps) (suc i) count there before fits =
    let parts = both (piece_fits p count) (pieces_fit (take i ps) count) before in
    ap (λ b. b && pieces_fit (take (suc i) ps) count) parts.0
    ∙ one_fits_more ps i count (omega (arith, there)) parts.1 fits

-- if as many pieces fit as there are, all do
pub all_fit : (ps : List Piece) (i count : ℕ) → length ps ≤ i → pieces_fit (take i ps) count ≡ true → pieces_fit ps count ≡ true
all_fit ps i count all fits = ap (λ qs. pieces_fit qs count) (sym (take_all i ps all)) ∙ fits

-- no pieces fit
pub none_fit : (count : ℕ) → pieces_fit [] count ≡ true
unfolding pieces_fit
none_fit count = refl

-- the first segments fit, and the next one does
pub fits_next : (ss : List Segment) (i count : ℕ) (s : Segment) → i < length ss → s ≡ get_or ss i s
    → pieces_fit (take i (pieces_of ss)) count ≡ true → piece_fits (piece_of s) count ≡ true
    → pieces_fit (take (i + 1) (pieces_of ss)) count ≡ true
fits_next ss i count s there is before fits =
    let size : length (pieces_of ss) ≡ length ss = length-map ss piece_of in
    let next : i + 1 ≡ suc i = omega arith in
    let same : get_or (pieces_of ss) i (piece 0 []) ≡ piece_of s =
    get_or-map piece_of ss i s (piece 0 []) there ∙ ap piece_of (sym is) in
    ap (λ k. pieces_fit (take k (pieces_of ss)) count) next
    ∙ one_fits_more (pieces_of ss) i count (omega (arith, size, there)) before
    (ap (λ p. piece_fits p count) same ∙ fits)
