-- The receipts of items in another order.
use Rattle.std.proofs.Common.{◌≡◌, ℕ, zero, suc, ◌<◌, List, [], ◌∷◌, ◌++◌, length, Some, sym, subst, get_or}
use Rattle.std.specs.Prelude.{slice_get, slice_set}
use Rattle.std.specs.List.{swap}
use Rattle.std.specs.List.Sorted.{IsPermutation}
use Rattle.std.proofs.lemmas.List.{append_assoc}
use Rattle.std.proofs.lemmas.List.Sorted.{IsPermutation-append_comm, IsPermutation-append_left, IsPermutation-append_right, IsPermutation-keeps, IsPermutation-refl, IsPermutation-sym, IsPermutation-trans}
use Rattle.std.proofs.lemmas.Option.{same_Some, slice_get-get_or}
use Rattle.rvm_recorder.specs.declared.items.ReceiptItem.{ReceiptItem}
use Rattle.rvm_recorder.specs.Receipts.{PlainReceipt}
use Rattle.rvm_recorder.specs.Runs.{all_of, receipts_of}

-- two parts before others may change places
front : (x y t : List PlainReceipt) → IsPermutation (x ++ (y ++ t)) (y ++ (x ++ t))
front x y t =
    subst (λ l. IsPermutation l (y ++ (x ++ t))) (append_assoc x y t)
    (subst (λ l. IsPermutation ((x ++ y) ++ t) l) (append_assoc y x t)
    (IsPermutation-append_left t (x ++ y) (y ++ x) (IsPermutation-append_comm x y)))

-- an item takes another one's place
put_in : (l : List ReceiptItem) (i : ℕ) (x y : ReceiptItem) → slice_get l i ≡ Some x
    → IsPermutation (receipts_of x ++ all_of (slice_set l i y)) (receipts_of y ++ all_of l)
put_in [] i x y at = absurd cc
put_in (z ∷ l) zero x y at =
    subst (λ w. IsPermutation (receipts_of x ++ all_of (y ∷ l)) (receipts_of y ++ (receipts_of w ++ all_of l))) (sym (same_Some z x at))
    (front (receipts_of x) (receipts_of y) (all_of l))
put_in (z ∷ l) (suc i) x y at =
    let rx = receipts_of x in
    let ry = receipts_of y in
    let rz = receipts_of z in
    let new = all_of (slice_set l i y) in
    IsPermutation-trans (rx ++ (rz ++ new)) (rz ++ (rx ++ new)) (ry ++ (rz ++ all_of l)) (front rx rz new)
    (IsPermutation-trans (rz ++ (rx ++ new)) (rz ++ (ry ++ all_of l)) (ry ++ (rz ++ all_of l))
    (IsPermutation-append_right rz (rx ++ new) (ry ++ all_of l) (put_in l i x y at)) (front rz ry (all_of l)))

-- two items change places
exchanged : (l : List ReceiptItem) (i j : ℕ) (x y : ReceiptItem) → slice_get l i ≡ Some x → slice_get l j ≡ Some y
    → IsPermutation (all_of l) (all_of (slice_set (slice_set l i y) j x))
exchanged [] i j x y at too = absurd cc
exchanged (z ∷ l) zero zero x y at too =
    subst (λ w. IsPermutation (receipts_of z ++ all_of l) (receipts_of w ++ all_of l)) (same_Some z x at)
    (IsPermutation-refl (receipts_of z ++ all_of l))
exchanged (z ∷ l) zero (suc j) x y at too =
    subst (λ w. IsPermutation (receipts_of w ++ all_of l) (receipts_of y ++ all_of (slice_set l j x))) (sym (same_Some z x at))
    (IsPermutation-sym (receipts_of y ++ all_of (slice_set l j x)) (receipts_of x ++ all_of l) (put_in l j y x too))
exchanged (z ∷ l) (suc i) zero x y at too =
    subst (λ w. IsPermutation (receipts_of w ++ all_of l) (receipts_of x ++ all_of (slice_set l i y))) (sym (same_Some z y too))
    (IsPermutation-sym (receipts_of x ++ all_of (slice_set l i y)) (receipts_of y ++ all_of l) (put_in l i x y at))
exchanged (z ∷ l) (suc i) (suc j) x y at too =
    IsPermutation-append_right (receipts_of z) (all_of l) (all_of (slice_set (slice_set l i y) j x)) (exchanged l i j x y at too)

swapped : (l : List ReceiptItem) (i j : ℕ) → i < length l → j < length l → IsPermutation (all_of l) (all_of (swap l i j))
swapped [] i j below too = IsPermutation-refl []
swapped (d ∷ l) i j below too =
    exchanged (d ∷ l) i j (get_or (d ∷ l) i d) (get_or (d ∷ l) j d) (slice_get-get_or (d ∷ l) i d below) (slice_get-get_or (d ∷ l) j d too)

-- items in another order have the same receipts
pub all_permuted : (xs ys : List ReceiptItem) → IsPermutation xs ys → IsPermutation (all_of xs) (all_of ys)
all_permuted xs ys same =
    IsPermutation-keeps xs (λ l. IsPermutation (all_of xs) (all_of l)) (IsPermutation-refl (all_of xs))
    (λ l i j below too so. IsPermutation-trans (all_of xs) (all_of l) (all_of (swap l i j)) so (swapped l i j below too)) ys same
