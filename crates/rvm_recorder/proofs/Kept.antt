-- What is kept of bytes that end with a page of zeros.
use Rattle.std.proofs.Common.{◌≡◌, ◌∙◌, ◌≢◌, ℕ, zero, suc, List, [], ◌∷◌, ◌++◌, take, drop, Some, slice_get, slice_set, refl, sym, ap}
use Rattle.std.proofs.lemmas.List.{take-append-drop}
use Rattle.rvm_frame.specs.Pages.{zeros}
use Rattle.rvm_recorder.specs.Keeping.{told}

-- without its page of zeros a list stands for the same bytes
pub left_out : (items : List ℕ) (front : ℕ) → front ≢ 0 → slice_get items 0 ≡ Some 0 → drop front items ≡ zeros
    → told (slice_set (take front items) 0 1) ≡ told items
left_out [] front some first is = absurd cc
left_out (x ∷ xs) zero some first is = absurd (some refl)
left_out (x ∷ xs) (suc k) some first is =
    let zero_first : x ≡ 0 = cc in
    ap (λ zs. take k xs ++ zs) (sym is) ∙ take-append-drop k xs ∙ sym (ap (λ t. told (t ∷ xs)) zero_first)
