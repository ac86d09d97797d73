-- Pages in which nothing is written do not change.
use Rattle.std.proofs.Common.{◌≡◌, ◌≢◌, ◌⊎◌, inl, inr, ℕ, zero, suc, ◌+◌, ◌-◌, ◌*◌, ◌/◌, ◌%◌, ◌<◌, ◌≤◌, List, [], ◌∷◌, ◌++◌, length, take, drop, sym, ap, ◌∙◌, arith, append_assoc, length-append}
use Rattle.std.proofs.lemmas.List.{length-take-le, length-drop, drop-append-le, take-append-le, drop-take, take-append-drop}
use Rattle.std.proofs.lemmas.Slice.{drop-append-drop}
use Rattle.std.proofs.lemmas.Bool.{cases_lt}
use Rattle.byteorder.specs.Endian.{little_bytes}
use Rattle.byteorder.specs.Numbers.{length-bytes_low_first}
use Rattle.rvm_mem.specs.Bytes.{replaced, slice, store}
use Rattle.rvm_mem.specs.Others.{NoneOf, Others}
use Rattle.rvm_mem.specs.Pages.{byte_pages, page_of}

-- nothing replaced
pub replaced_nothing : (at : ℕ) (bytes : List ℕ) → replaced at [] bytes ≡ bytes
replaced_nothing at bytes = ap (λ n. take at bytes ++ drop n bytes) (let e : at + 0 ≡ at = omega arith in e) ∙ take-append-drop at bytes

-- n bytes from place m, which end before the first that is replaced
before : (n m at : ℕ) (xs rest : List ℕ) → m + n ≤ at → at ≤ length xs → slice n m (take at xs ++ rest) ≡ slice n m xs
before n m at xs rest ends inside =
    let long : length (take at xs) ≡ at = length-take-le at xs inside in
    let d : drop m (take at xs) ≡ take (at - m) (drop m xs) =
    ap (λ k. drop m (take k xs)) (let e : at ≡ m + (at - m) = omega (arith, ends) in e) ∙ drop-take m (at - m) xs in
    let long_rest : length (drop m (take at xs)) ≡ at - m = length-drop m (take at xs) ∙ ap (λ k. k - m) long in
    let whole : drop m xs ≡ take (at - m) (drop m xs) ++ drop (at - m) (drop m xs) = sym (take-append-drop (at - m) (drop m xs)) in
    let long_more : length (take (at - m) (drop m xs)) ≡ at - m = ap length (sym d) ∙ long_rest in
    ap (λ z. take n z) (drop-append-le m (take at xs) rest (omega (arith, ends, long)))
    ∙ take-append-le n (drop m (take at xs)) rest (omega (arith, ends, long_rest))
    ∙ ap (λ z. take n z) d
    ∙ sym (ap (λ z. take n z) whole ∙ take-append-le n (take (at - m) (drop m xs)) (drop (at - m) (drop m xs)) (omega (arith, ends, long_more)))

-- n bytes from place m, after the last that is replaced
behind : (n m at : ℕ) (new xs : List ℕ) → at + length new ≤ m → at + length new ≤ length xs → slice n m (replaced at new xs) ≡ slice n m xs
behind n m at new xs begins inside =
    let front : List ℕ = take at xs ++ new in
    let long : length front ≡ at + length new = length-append (take at xs) new ∙ ap (λ k. k + length new) (length-take-le at xs (omega (arith, inside))) in
    ap (λ z. take n (drop m z)) (sym (append_assoc (take at xs) new (drop (at + length new) xs)))
    ∙ ap (λ z. take n z) (drop-append-drop (at + length new) xs front m begins long)

pub page_replaced : (p at : ℕ) (new bytes : List ℕ) → at + length new ≤ length bytes → (4096 * p + 4096 ≤ at) ⊎ (at + length new ≤ 4096 * p)
    → page_of p (replaced at new bytes) ≡ page_of p bytes
page_replaced p at new bytes inside (inl ends) = before 4096 (4096 * p) at bytes (new ++ drop (at + length new) bytes) ends (omega (arith, inside))
page_replaced p at new bytes inside (inr begins) = behind 4096 (4096 * p) at new bytes begins inside

-- bytes of one page are before or after each other page
apart : (p at n : ℕ) → at % 4096 + n ≤ 4096 → at / 4096 ≢ p → (4096 * p + 4096 ≤ at) ⊎ (at + n ≤ 4096 * p)
apart p at n room other = elim (cases_lt (at / 4096) p) [
  | inl lt ↦ inr (omega (arith, lt, room))
  | inr ge ↦ elim (cases_lt p (at / 4096)) [
    | inl gt ↦ inl (omega (arith, gt, room))
    | inr le ↦ absurd (other (omega (arith, ge, le)))
  ]
]

-- a store that stays in its page
pub store_others : (n at v : ℕ) (bytes : List ℕ) → at + n ≤ length bytes → at % 4096 + n ≤ 4096 → Others (at / 4096 ∷ []) (store n at v bytes) bytes
store_others n at v bytes inside room = λ p none.
    let new : List ℕ = little_bytes n v in
    let long : length new ≡ n = length-bytes_low_first 0 n v in
    ap (λ k. page_of p (take at bytes ++ (new ++ drop (at + k) bytes))) (sym long)
    ∙ page_replaced p at new bytes (omega (arith, inside, long)) (apart p at (length new) (omega (arith, room, long)) none.0)

-- a page that is not in a list with one more page at its end
none_before : (p : ℕ) (pages : List ℕ) (q : ℕ) → NoneOf p (pages ++ q ∷ []) → NoneOf p pages × (q ≢ p)
none_before p [] q none = (tt, none.0)
none_before p (x ∷ pages) q none =
    let rest = none_before p pages q none.1 in
    ((none.0, rest.0), rest.1)

-- a page that has none of n bytes is before or after them
far : (p at n : ℕ) → 0 < n → NoneOf p (byte_pages at n) → (4096 * p + 4096 ≤ at) ⊎ (at + n ≤ 4096 * p)
unfolding byte_pages
far p at zero some none = absurd (omega (arith, some))
far p at (suc zero) some none =
    apart p at 1 (omega arith) (λ e. none.0 (let z : at + 0 ≡ at = omega arith in ap (λ k. k / 4096) z ∙ e))
far p at (suc (suc n)) some none =
    let both = none_before p (byte_pages at (suc n)) ((at + suc n) / 4096) none in
    elim (far p at (suc n) (omega arith) both.0) [
      | inl ends ↦ inl ends
      | inr begins ↦ elim (cases_lt (at + suc n) (4096 * p)) [
        | inl lt ↦ inr (omega (arith, lt))
        | inr ge ↦ absurd (both.1 (let e : (at + suc n) / 4096 ≡ p = omega (arith, ge, begins) in e))
      ]
    ]

pub poke_others : (at : ℕ) (new bytes : List ℕ) → at + length new ≤ length bytes → Others (byte_pages at (length new)) (replaced at new bytes) bytes
poke_others at [] bytes inside = λ p none. ap (λ xs. page_of p xs) (replaced_nothing at bytes)
poke_others at (b ∷ new) bytes inside = λ p none. page_replaced p at (b ∷ new) bytes inside (far p at (length (b ∷ new)) (omega arith) none)
