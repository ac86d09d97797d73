-- The offset of a branch, put together from the top bits of its word.
use Rattle.std.proofs.Common.{◌≡◌, ℕ, ◌+◌, ◌-◌, ◌*◌, ◌/◌, ◌%◌, ◌^◌, ◌<◌, ◌≤◌, ℤ, negsuc, pos, ap, ◌∙◌, subst, sym, arith, bit_and, lit<, inl, inr, Fits}
use Rattle.std.specs.Int.{w32}
use Rattle.std.proofs.lemmas.Bool.{cases_lt}
use Rattle.std.proofs.lemmas.Nat.{and_mask}
use Rattle.rvm_word.specs.Word.{FitsSignedBits, floor_shift, modulo, signed, signed_value}
use Rattle.rvm_word.proofs.Signed.{lower, modulo-signed_value, signed_value_fits, upper}
use Rattle.rvm_isa.specs.Fields.{IsEven, b_bits}
use Rattle.rvm_isa.proofs.Rows.{and_parts}

mask_FFFFF7E0 : (x : ℕ) → bit_and x 0xFFFFF7E0 ≡ x / 2 ^ 12 % 2 ^ 20 * 2 ^ 12 + x / 2 ^ 5 % 2 ^ 6 * 2 ^ 5
mask_FFFFF7E0 x =
    let h = and_parts x 12 0xFFFFF 0x7E0 (lit< tt) (lit< tt) in
    let i = and_mask (x / 2 ^ 12) 20 in
    let g = and_parts (x % 2 ^ 12) 5 63 0 (lit< tt) (lit< tt) in
    let k = and_mask (x % 2 ^ 12 / 2 ^ 5) 6 in
    let z = and_mask (x % 2 ^ 12 % 2 ^ 5) 0 in
    omega (arith, h, i, g, k, z)

-- the offset without its sign
abbrev low_bits : ℕ → ℕ
low_bits w = 2 * (w / 2 ^ 8 % 2 ^ 4) + 2 ^ 5 * (w / 2 ^ 25 % 2 ^ 6) + 2 ^ 11 * (w / 2 ^ 7 % 2)

-- the word that holds the offset: what one shift brings to its place, and the rest
abbrev gathered : ℕ → ℕ
gathered w = bit_and (modulo 32 (floor_shift (signed w) 20)) 0xFFFFF7E0 + (bit_and (w / 2 ^ 7) 0x1E + bit_and w 0x80 * 2 ^ 4 % 2 ^ 32)

mask_1E : (x : ℕ) → bit_and x 0x1E ≡ x / 2 % 2 ^ 4 * 2
mask_1E x =
    let g = and_parts x 1 15 0 (lit< tt) (lit< tt) in
    let k = and_mask (x / 2) 4 in
    let z = and_mask (x % 2) 0 in
    omega (arith, g, k, z)

mask_80 : (x : ℕ) → bit_and x 0x80 ≡ x / 2 ^ 7 % 2 * 2 ^ 7
mask_80 x =
    let g = and_parts x 7 1 0 (lit< tt) (lit< tt) in
    let k = and_mask (x / 2 ^ 7) 1 in
    let z = and_mask (x % 2 ^ 7) 0 in
    omega (arith, g, k, z)

-- a word whose top bit is 0
gathered_lower : (w : ℕ) → w < 2 ^ 31 → gathered w ≡ low_bits w
gathered_lower w below =
    let x : modulo 32 (floor_shift (signed w) 20) ≡ w / 2 ^ 20 = ap (λ z. modulo 32 (floor_shift z 20)) (lower 32 w below) ∙ omega (arith, below) in
    let m = mask_FFFFF7E0 (w / 2 ^ 20) in
    let p = mask_1E (w / 2 ^ 7) in
    let q = mask_80 w in
    ap (λ n. bit_and n 0xFFFFF7E0 + (bit_and (w / 2 ^ 7) 0x1E + bit_and w 0x80 * 2 ^ 4 % 2 ^ 32)) x ∙ omega (arith, below, m, p, q)

-- a word whose top bit is 1
gathered_upper : (w : ℕ) → 2 ^ 31 ≤ w → w < 2 ^ 32 → gathered w ≡ 2 ^ 32 - 2 ^ 12 + low_bits w
gathered_upper w above within =
    let j : ℕ = 2 ^ 32 - 1 - w in
    let x : modulo 32 (floor_shift (signed w) 20) ≡ 2 ^ 32 - 2 ^ 12 + w / 2 ^ 20 =
    ap (λ z. modulo 32 (floor_shift z 20)) (upper 32 w j above (omega (arith, within))) ∙ omega (arith, above, within) in
    let m = mask_FFFFF7E0 (2 ^ 32 - 2 ^ 12 + w / 2 ^ 20) in
    let p = mask_1E (w / 2 ^ 7) in
    let q = mask_80 w in
    ap (λ n. bit_and n 0xFFFFF7E0 + (bit_and (w / 2 ^ 7) 0x1E + bit_and w 0x80 * 2 ^ 4 % 2 ^ 32)) x ∙ omega (arith, above, within, m, p, q)

-- the word holds the offset
is_offset : (w : ℕ) → w < 2 ^ 32 → signed (gathered w) ≡ signed_value 13 (b_bits w)
is_offset w within =
    elim (cases_lt w (2 ^ 31)) [
      | inl below ↦
          ap signed (gathered_lower w below)
          ∙ lower 32 (low_bits w) (omega arith)
          ∙ sym (lower 13 (low_bits w) (omega arith))
          ∙ ap (signed_value 13) (omega (arith, below))
      | inr above ↦
          let j : ℕ = 2 ^ 12 - 1 - low_bits w in
          ap signed (gathered_upper w above within)
          ∙ upper 32 (2 ^ 32 - 2 ^ 12 + low_bits w) j (omega arith) (omega arith)
          ∙ sym (upper 13 (2 ^ 12 + low_bits w) j (omega arith) (omega arith))
          ∙ ap (signed_value 13) (omega (arith, above, within))
    ]

gathered_fits : (w : ℕ) → w < 2 ^ 32 → gathered w < 2 ^ 32
gathered_fits w within =
    elim (cases_lt w (2 ^ 31)) [
      | inl below ↦ subst (λ n. n < 2 ^ 32) (sym (gathered_lower w below)) (omega arith)
      | inr above ↦ subst (λ n. n < 2 ^ 32) (sym (gathered_upper w above within)) (omega arith)
    ]

-- what the shift brings
abbrev IsTop : (w top : ℕ) → Type 0
IsTop w top = top ≡ modulo 32 (floor_shift (signed w) 20)

-- the word, given what the shift brings
abbrev offset_word : (w top : ℕ) → ℕ
offset_word w top = bit_and top 0xFFFFF7E0 + (bit_and (w / 2 ^ 7) 0x1E + bit_and w 0x80 * 2 ^ 4 % 2 ^ 32)

pub low_fits : (w : ℕ) → Fits w32 (bit_and (w / 2 ^ 7) 0x1E + bit_and w 0x80 * 2 ^ 4 % 2 ^ 32)
low_fits w =
    let p = mask_1E (w / 2 ^ 7) in
    let q = mask_80 w in
    omega (arith, p, q)

pub word_fits : (w top : ℕ) → w < 2 ^ 32 → IsTop w top → Fits w32 (offset_word w top)
word_fits w top within is =
    let below : offset_word w top < 2 ^ 32 = subst (λ n. offset_word w n < 2 ^ 32) (sym is) (gathered_fits w within) in
    omega (arith, below)

pub offset_value : (w top : ℕ) → w < 2 ^ 32 → IsTop w top → signed (offset_word w top) ≡ signed_value 13 (b_bits w)
offset_value w top within is = subst (λ n. signed (offset_word w n) ≡ signed_value 13 (b_bits w)) (sym is) (is_offset w within)

b_below : (w : ℕ) → b_bits w < 2 ^ 13
b_below w = omega arith

b_even : (w : ℕ) → b_bits w % 2 ≡ 0
b_even w = omega arith

pub offset_in_range : (w top : ℕ) → w < 2 ^ 32 → IsTop w top → FitsSignedBits 13 (signed (offset_word w top))
offset_in_range w top within is = rw (offset_value w top within is) (signed_value_fits 13 (b_bits w) (lit< tt) (b_below w))

pub offset_bits : (w top : ℕ) → w < 2 ^ 32 → IsTop w top → modulo 13 (signed (offset_word w top)) ≡ b_bits w
offset_bits w top within is = ap (modulo 13) (offset_value w top within is) ∙ modulo-signed_value 13 (b_bits w) (lit< tt) (b_below w)

even_of : (z : ℤ) → modulo 13 z % 2 ≡ 0 → IsEven z
even_of (pos n) e = omega (arith, e)
even_of (negsuc n) e = omega (arith, e)

pub offset_even : (w top : ℕ) → w < 2 ^ 32 → IsTop w top → IsEven (signed (offset_word w top))
offset_even w top within is = even_of (signed (offset_word w top)) (ap (λ n. n % 2) (offset_bits w top within is) ∙ b_even w)

pub ruleset offsets = (low_fits, word_fits, offset_value, offset_in_range, offset_bits, offset_even)
