-- The pieces of the copies' numbers and the state, from which both are read back.
use Rattle.std.proofs.Common.{◌≡◌, ℕ, zero, suc, ◌+◌, ◌-◌, ◌*◌, ◌^◌, ◌<◌, ◌≤◌, true, List, [], ◌∷◌, length, take, drop, get_or, Some, refl, sym, ap, subst, ◌∙◌, arith}
use Rattle.std.specs.List.{list_all}
use Rattle.std.specs.Int.{div_ceil}
use Rattle.std.proofs.lemmas.List.{length-drop, drop-drop}
use Rattle.std.proofs.lemmas.Bool.Decides.{nat_tests}
use Rattle.rvm_codec.specs.Numbers.{within}
use Rattle.rvm_codec.specs.Exact.{IsExactFormat}
use Rattle.rvm_codec.proofs.Steps.{and_so}
use Rattle.rvm_codec.proofs.Exact.{counted_each_exact, with_rest_exact, within_below, within_exact}
use Rattle.rvm_frame.specs.Bodies as frame
use Rattle.rvm_board.specs.Guest.{Guest}
use Rattle.rvm_guest.specs.Body.{body_of}
use Rattle.rvm_guest.specs.Pages.{count_of, pages_of}
use Rattle.rvm_guest.specs.Pieces.{cut, join, pieces}
use Rattle.rvm_guest.specs.Valid.{is_valid}
use Rattle.rvm_guest.proofs.Joined.{joined_pieces, length_pages}
use Rattle.rvm_guest.proofs.Staying.{valid_is}

some : (n : ℕ) (b : ℕ) (bytes : List ℕ) → 0 < n → 0 < length (pieces n (b ∷ bytes))
unfolding pieces
some zero b bytes h = absurd (omega (arith, h))
some (suc n) b bytes h = omega arith

pub some_piece : (numbers b : List ℕ) → 0 < length (cut numbers b)
unfolding cut
some_piece numbers b = some _ _ _ (omega arith)

-- as few pieces as possible, the last one with what is left
pub length_pieces : (n : ℕ) (bytes : List ℕ) → length bytes ≤ n → length (pieces n bytes) ≡ div_ceil (length bytes) 4096
unfolding pieces
length_pieces zero [] h = refl
length_pieces zero (b ∷ bytes) h = absurd (omega (arith, h))
length_pieces (suc n) [] h = refl
length_pieces (suc n) (b ∷ bytes) h =
    let d = length-drop 4096 (b ∷ bytes) in
    let rest = length_pieces n (drop 4096 (b ∷ bytes)) (omega (arith, d, h)) in
    omega (arith, d, rest)

pub piece_at : (n p : ℕ) (bytes : List ℕ) → p < length (pieces n bytes) → get_or (pieces n bytes) p [] ≡ take 4096 (drop (4096 * p) bytes)
unfolding pieces
piece_at zero p bytes lt = absurd (omega (arith, lt))
piece_at (suc n) p [] lt = absurd (omega (arith, lt))
piece_at (suc n) zero (b ∷ bytes) lt = refl
piece_at (suc n) (suc p) (b ∷ bytes) lt =
    let e : 4096 + 4096 * p ≡ 4096 * suc p = omega arith in
    piece_at n p (drop 4096 (b ∷ bytes)) (omega (arith, lt))
    ∙ ap (λ z. take 4096 z) (drop-drop (4096 * p) 4096 (b ∷ bytes) ∙ ap (λ k. drop k (b ∷ bytes)) e)

pub count_of_cut : (numbers b : List ℕ) → length (cut numbers b) ≡ div_ceil (length (frame.state.write (numbers, b))) 4096
unfolding cut
count_of_cut numbers b = length_pieces _ _ (omega arith)

pub cut_at : (numbers b : List ℕ) (p : ℕ) → p < length (cut numbers b) → get_or (cut numbers b) p [] ≡ take 4096 (drop (4096 * p) (frame.state.write (numbers, b)))
unfolding cut
cut_at numbers b p lt = piece_at _ p _ lt

state_exact : IsExactFormat frame.state
state_exact = with_rest_exact _ (counted_each_exact 2 (within 1 4096) _ (within_below (256 ^ 2) 1 4096 (omega arith)) (within_exact 4 1 (2 ^ 32 - 1) (omega arith)))

numbers_fit : (xs : List ℕ) → ((p : ℕ) → p < length xs → (0 < get_or xs p 0) × (get_or xs p 0 < 2 ^ 32)) → list_all (within 1 (2 ^ 32 - 1)) xs ≡ true
numbers_fit [] each = refl
numbers_fit (x ∷ xs) each =
    let a = each 0 (omega arith) in
    let w : within 1 (2 ^ 32 - 1) x ≡ true = grind (arith, nat_tests) in
    rw w (numbers_fit xs (λ p lt. each (suc p) (omega (arith, lt))))

pub joined_again : (g : Guest) (numbers : List ℕ) → is_valid g ≡ true → length numbers ≡ length (pages_of g) → ((p : ℕ) → p < length numbers → (0 < get_or numbers p 0) × (get_or numbers p 0 < 2 ^ 32))
    → join (cut numbers (body_of g)) ≡ Some (numbers, body_of g)
unfolding cut join
joined_again g numbers h n each =
    let bytes : List ℕ = frame.state.write (numbers, body_of g) in
    let long : length numbers ≡ count_of g = n ∙ length_pages (count_of g) g.board.shared.bytes in
    let count : within 1 4096 (length numbers) ≡ true = subst (λ z. within 1 4096 z ≡ true) (sym long) (valid_is g h).count in
    ap (λ z. frame.state.read z) (joined_pieces (length bytes) bytes (omega arith))
    ∙ state_exact.again (numbers, body_of g) (and_so (within 1 4096 (length numbers)) _ count (numbers_fit numbers each))
