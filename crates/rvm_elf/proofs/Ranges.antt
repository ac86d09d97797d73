-- Bytes of a list, with a range of them replaced.
use Rattle.std.proofs.Common.{◌≡◌, ℕ, ◌+◌, ◌-◌, ◌<◌, ◌≤◌, List, ◌++◌, length, take, drop, get_or, refl, sym, ap, ◌∙◌, arith, append_assoc, length-append}
use Rattle.std.proofs.lemmas.List.{take_at, drop_at, drop-drop, length-take-le, get_or_append_left, get_or-append_right, get_or-take, get_or-drop}
use Rattle.rvm_mem.specs.Bytes.{replaced}

-- a range, and then the one after it
pub replaced_more : (at here : ℕ) (front next ram : List ℕ) → here ≡ at + length front → here + length next ≤ length ram → replaced here next (replaced at front ram) ≡ replaced at (front ++ next) ram
replaced_more at here front next ram is inside =
    let before : List ℕ = take at ram ++ front in
    let rest : List ℕ = drop (at + length front) ram in
    let whole : replaced at front ram ≡ before ++ rest = sym (append_assoc (take at ram) front rest) in
    let size : length before ≡ here = omega (arith, length-append (take at ram) front, length-take-le at ram (omega arith)) in
    let behind : drop (here + length next) (before ++ rest) ≡ drop (at + length (front ++ next)) ram =
    sym (drop-drop (length next) here (before ++ rest))
    ∙ ap (drop (length next)) (drop_at before rest here size)
    ∙ drop-drop (length next) (at + length front) ram
    ∙ ap (λ n. drop n ram) (omega (arith, length-append front next)) in
    ap (replaced here next) whole
    ∙ ap (λ xs. xs ++ (next ++ drop (here + length next) (before ++ rest))) (take_at before rest here size)
    ∙ ap (λ xs. before ++ (next ++ xs)) behind
    ∙ append_assoc (take at ram) front (next ++ drop (at + length (front ++ next)) ram)
    ∙ ap (λ xs. take at ram ++ xs) (sym (append_assoc front next (drop (at + length (front ++ next)) ram)))

-- a byte before the range, in it, and after it
pub before_replaced : (at k : ℕ) (new ram : List ℕ) → at ≤ length ram → k < at → get_or (replaced at new ram) k 0 ≡ get_or ram k 0
before_replaced at k new ram inside below =
    get_or_append_left (take at ram) (new ++ drop (at + length new) ram) 0 k (omega (arith, length-take-le at ram inside))
    ∙ get_or-take at ram k 0 below

pub within_replaced : (at k : ℕ) (new ram : List ℕ) → at ≤ length ram → at ≤ k → k < at + length new → get_or (replaced at new ram) k 0 ≡ get_or new (k - at) 0
within_replaced at k new ram inside above below =
    get_or-append_right (take at ram) (new ++ drop (at + length new) ram) at k 0 (length-take-le at ram inside) above
    ∙ get_or_append_left new (drop (at + length new) ram) 0 (k - at) (omega arith)

pub behind_replaced : (at k : ℕ) (new ram : List ℕ) → at ≤ length ram → at + length new ≤ k → get_or (replaced at new ram) k 0 ≡ get_or ram k 0
behind_replaced at k new ram inside above =
    get_or-append_right (take at ram) (new ++ drop (at + length new) ram) at k 0 (length-take-le at ram inside) (omega arith)
    ∙ get_or-append_right new (drop (at + length new) ram) (length new) (k - at) 0 refl (omega arith)
    ∙ get_or-drop (at + length new) ram (k - at - length new) 0
    ∙ ap (λ n. get_or ram n 0) (omega arith)
