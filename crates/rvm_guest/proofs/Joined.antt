-- Bytes cut into pages and pieces, and joined again.
use Rattle.std.proofs.Common.{◌≡◌, ℕ, zero, suc, ◌+◌, ◌-◌, ◌*◌, ◌/◌, ◌%◌, ◌<◌, ◌≤◌, List, [], ◌∷◌, ◌++◌, length, get_or, set, replicate, take, drop, refl, sym, ap, ◌∙◌, arith, append_assoc}
use Rattle.std.proofs.Math.Seq.{take-append_seam, drop-append_seam, take-add}
use Rattle.std.proofs.lemmas.List.{length-drop, length-replicate, length-take-le, drop-drop, drop-replicate, take-append-drop, take-replicate}
use Rattle.rvm_mem.specs.Bytes.{replaced}
use Rattle.rvm_mem.proofs.Lengths.{length-replaced}
use Rattle.rvm_mem.specs.Pages.{page_of}
use Rattle.rvm_guest.specs.Pages.{pages_at, pages_in, joined, zeros}
use Rattle.rvm_guest.specs.Pieces.{pieces}

pub length_pages : (n : ℕ) (bytes : List ℕ) → length (pages_at n bytes) ≡ n
unfolding pages_at
length_pages zero bytes = refl
length_pages (suc n) bytes = ap suc (length_pages n (drop 4096 bytes))

pub joined_pages : (n : ℕ) (bytes : List ℕ) → length bytes ≡ 4096 * n → joined (pages_at n bytes) ≡ bytes
unfolding pages_at joined
joined_pages zero [] e = refl
joined_pages zero (b ∷ bytes) e = absurd (omega (arith, e))
joined_pages (suc n) bytes e =
    ap (λ z. take 4096 bytes ++ z) (joined_pages n (drop 4096 bytes) (let d = length-drop 4096 bytes in omega (arith, d, e)))
    ∙ take-append-drop 4096 bytes

pub joined_pieces : (n : ℕ) (bytes : List ℕ) → length bytes ≤ n → joined (pieces n bytes) ≡ bytes
unfolding pieces joined
joined_pieces zero [] h = refl
joined_pieces zero (b ∷ bytes) h = absurd (omega (arith, h))
joined_pieces (suc n) [] h = refl
joined_pieces (suc n) (b ∷ bytes) h =
    ap (λ z. take 4096 (b ∷ bytes) ++ z) (joined_pieces n (drop 4096 (b ∷ bytes)) (let d = length-drop 4096 (b ∷ bytes) in omega (arith, d, h)))
    ∙ take-append-drop 4096 (b ∷ bytes)

pub page_at : (n p : ℕ) (bytes : List ℕ) (d : List ℕ) → p < n → get_or (pages_at n bytes) p d ≡ page_of p bytes
unfolding pages_at
page_at zero p bytes d lt = absurd (omega (arith, lt))
page_at (suc n) zero bytes d lt = refl
page_at (suc n) (suc p) bytes d lt =
    let e : 4096 + 4096 * p ≡ 4096 * suc p = omega arith in
    page_at n p (drop 4096 bytes) d (omega (arith, lt))
    ∙ ap (λ z. take 4096 z) (drop-drop (4096 * p) 4096 bytes ∙ ap (λ k. drop k bytes) e)

-- ZEROS

pages_of_zeros : (n : ℕ) → pages_at n (replicate (4096 * n) 0) ≡ replicate n zeros
unfolding pages_at
pages_of_zeros zero = refl
pages_of_zeros (suc n) =
    let few : 4096 ≤ 4096 * suc n = omega arith in
    let rest : 4096 * suc n - 4096 ≡ 4096 * n = omega arith in
    ap (λ z. z ∷ pages_at n (drop 4096 (replicate (4096 * suc n) 0))) (take-replicate 4096 (4096 * suc n) 0 few)
    ∙ ap (λ z. zeros ∷ pages_at n z) (drop-replicate 4096 (4096 * suc n) 0 ∙ ap (λ k. replicate k 0) rest)
    ∙ ap (λ z. zeros ∷ z) (pages_of_zeros n)

pub blank_pages : (n : ℕ) → pages_in (replicate (4096 * n) 0) ≡ replicate n zeros
blank_pages n =
    let count : length (replicate {A = ℕ} (4096 * n) 0) / 4096 ≡ n = (let l = length-replicate {A = ℕ} (4096 * n) 0 in omega (arith, l)) in
    ap (λ k. pages_at k (replicate (4096 * n) 0)) count ∙ pages_of_zeros n

-- A PAGE THAT IS PUT

front : (head rest : List ℕ) → length head ≡ 4096 → take 4096 (head ++ rest) ≡ head
front head rest e = ap (λ k. take k (head ++ rest)) (sym e) ∙ take-append_seam head rest

behind : (head rest : List ℕ) → length head ≡ 4096 → drop 4096 (head ++ rest) ≡ rest
behind head rest e = ap (λ k. drop k (head ++ rest)) (sym e) ∙ drop-append_seam head rest

replaced_later : (at : ℕ) (b bytes : List ℕ) → replaced (4096 + at) b bytes ≡ take 4096 bytes ++ replaced at b (drop 4096 bytes)
replaced_later at b bytes =
    let tail = drop 4096 bytes in
    let e : 4096 + at + length b ≡ 4096 + (at + length b) = omega arith in
    let z : 4096 + (at + length b) ≡ 4096 + (at + length b) = refl in
    ap (λ x. x ++ (b ++ drop (4096 + at + length b) bytes)) (take-add 4096 at bytes)
    ∙ ap (λ x. (take 4096 bytes ++ take at tail) ++ (b ++ x)) (ap (λ k. drop k bytes) e ∙ sym (drop-drop (at + length b) 4096 bytes))
    ∙ append_assoc (take 4096 bytes) (take at tail) (b ++ drop (at + length b) tail)

pages_replaced : (n p : ℕ) (b bytes : List ℕ) → length b ≡ 4096 → length bytes ≡ 4096 * n → p < n
    → pages_at n (replaced (4096 * p) b bytes) ≡ set (pages_at n bytes) p b
unfolding pages_at
pages_replaced zero p b bytes lb l lt = absurd (omega (arith, lt))
pages_replaced (suc n) zero b bytes lb l lt =
    let z : 0 + length b ≡ 4096 = omega (arith, lb) in
    let rest = drop (0 + length b) bytes in
    ap (λ x. x ∷ pages_at n (drop 4096 (b ++ rest))) (front b rest lb)
    ∙ ap (λ x. b ∷ pages_at n x) (behind b rest lb ∙ ap (λ k. drop k bytes) z)
pages_replaced (suc n) (suc p) b bytes lb l lt =
    let e : 4096 * suc p ≡ 4096 + 4096 * p = omega arith in
    let tail = drop 4096 bytes in
    let head = take 4096 bytes in
    let few : 4096 ≤ length bytes = omega (arith, l) in
    let lh : length head ≡ 4096 = length-take-le 4096 bytes few in
    let lt2 : length tail ≡ 4096 * n = (let d = length-drop 4096 bytes in omega (arith, d, l)) in
    let r = replaced (4096 * p) b tail in
    ap (λ k. pages_at (suc n) (replaced k b bytes)) e
    ∙ ap (λ x. pages_at (suc n) x) (replaced_later (4096 * p) b bytes)
    ∙ ap (λ x. x ∷ pages_at n (drop 4096 (head ++ r))) (front head r lh)
    ∙ ap (λ x. head ∷ pages_at n x) (behind head r lh)
    ∙ ap (λ x. head ∷ x) (pages_replaced n p b tail lb lt2 (omega (arith, lt)))

pub put_page : (p : ℕ) (new ram : List ℕ) → length ram % 4096 ≡ 0 → length new ≡ 4096 → p < length ram / 4096 → pages_in (replaced (4096 * p) new ram) ≡ set (pages_in ram) p new
put_page p new ram whole size lt =
    let same : length (replaced (4096 * p) new ram) ≡ length ram = length-replaced (4096 * p) new ram (omega (arith, whole, size, lt)) in
    ap (λ n. pages_at (n / 4096) (replaced (4096 * p) new ram)) same
    ∙ pages_replaced (length ram / 4096) p new ram size (omega (arith, whole)) lt
