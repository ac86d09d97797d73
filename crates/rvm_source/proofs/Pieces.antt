-- The pieces of a state are cut from the body of its State frame.
use Rattle.std.proofs.Common.{◌≡◌, inl, inr, ℕ, ◌+◌, ◌-◌, ◌*◌, ◌<◌, ◌≤◌, min, List, [], length, get_or, take, drop, sym, ap, ◌∙◌, arith}
use Rattle.std.specs.Prelude.{IfOk, Result, Ok, Err}
use Rattle.std.specs.Int.{div_ceil}
use Rattle.std.proofs.lemmas.Bool.{cases_lt}
use Rattle.std.proofs.lemmas.List.{length-drop, take_all}
use Rattle.rvm_frame.specs.Bodies as frame
use Rattle.rvm_frame.proofs.Lengths.{length_state}
use Rattle.rvm_state.specs.Spelling.{longest}
use Rattle.rvm_guest.specs.Pieces.{cut, pieces}
use Rattle.rvm_guest.proofs.Pieces.{length_pieces, piece_at}

-- a list's first 4096 elements, or all of them if it is shorter
shorter : (bytes : List ℕ) (n : ℕ) → n ≡ min (length bytes) 4096 → take n bytes ≡ take 4096 bytes
shorter bytes n is = elim (cases_lt 4096 (length bytes)) [
  | inl lt ↦ let full : n ≡ 4096 = omega (arith, is, lt) in ap (λ k. take k bytes) full
  | inr le ↦ take_all n bytes (omega (arith, is, le)) ∙ sym (take_all 4096 bytes le)
]

-- a piece begins in the body
pub begins : (bytes : List ℕ) (place : ℕ) → place < length (pieces (length bytes) bytes) → 4096 * place < length bytes
begins bytes place lt = let count = length_pieces (length bytes) bytes (omega arith) in omega (arith, count, lt)

-- a piece ends after 4096 bytes, or with the body
pub ends : (bytes : List ℕ) (place end : ℕ) → end ≡ min (length bytes) (4096 * place + 4096) → place < length (pieces (length bytes) bytes)
    → take (end - 4096 * place) (drop (4096 * place) bytes) ≡ get_or (pieces (length bytes) bytes) place []
ends bytes place end is lt =
    shorter (drop (4096 * place) bytes) (end - 4096 * place) (let d = length-drop (4096 * place) bytes in omega (arith, is, d))
    ∙ sym (piece_at (length bytes) place bytes lt)

-- the pieces of the body of a State frame, and the length of that body
is_cut : (bytes numbers state body : List ℕ) → bytes ≡ frame.state.write (numbers, state) → state ≡ body → pieces (length bytes) bytes ≡ cut numbers body
unfolding cut
is_cut bytes numbers state body is same = ap (λ b. pieces (length b) b) (is ∙ ap (λ b. frame.state.write (numbers, b)) same)

pub are_cut : {T E : Type 0} (items : T → List ℕ) (numbers state body : List ℕ) (r : Result T E) → IfOk r (λ b. items b ≡ frame.state.write (numbers, state)) → state ≡ body
    → IfOk r (λ b. pieces (length (items b)) (items b) ≡ cut numbers body)
are_cut items numbers state body (Ok b) is same = is_cut (items b) numbers state body is same
are_cut items numbers state body (Err e) is same = tt

pub not_longer : {T E : Type 0} (items : T → List ℕ) (numbers state : List ℕ) (r : Result T E) → IfOk r (λ b. items b ≡ frame.state.write (numbers, state)) → length numbers ≤ 4096 → length state ≤ longest
    → IfOk r (λ b. length (items b) ≤ 2 + 4 * 4096 + longest)
not_longer items numbers state (Ok b) is few small =
    let same : length (items b) ≡ length (frame.state.write (numbers, state)) = ap length is in
    omega (arith, same, length_state numbers state, few, small)
not_longer items numbers state (Err e) is few small = tt

-- the number of pieces is the least possible
pub count_is : (bytes numbers body : List ℕ) → pieces (length bytes) bytes ≡ cut numbers body → div_ceil (length bytes) 4096 ≡ length (cut numbers body)
count_is bytes numbers body is = sym (length_pieces (length bytes) bytes (omega arith)) ∙ ap length is
