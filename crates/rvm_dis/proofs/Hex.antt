-- What `{:08x}` and `{:03x}` write: a number's last digits, with zeros before them.
use Rattle.std.proofs.Common.{◌≡◌, ℕ, zero, suc, ◌+◌, ◌-◌, ◌/◌, ◌%◌, ◌^◌, ◌<◌, ◌≤◌, false, true, eqb, List, [], ◌∷◌, ◌++◌, length, replicate, refl, sym, ap, ◌∙◌, arith, append_assoc, length-append, inl, inr}
use Rattle.std.proofs.lemmas.List.{append-nil}
use Rattle.std.proofs.lemmas.Bool.{cases_eq}
use Rattle.std.proofs.lemmas.Bool.Decides.{nat_tests}
use Rattle.std.proofs.Math.Nat.{pow-suc, pow-zero}
use Rattle.std.specs.Fmt.{digits, digits_onto, digit_glyph, padded_integral, format_spec, char_count}
use Rattle.rvm_dis.specs.Pieces.{hex_digits}

-- this many digits 0
abbrev some_zeros : ℕ → List ℕ
some_zeros n = replicate n 48

-- a zero more at the end
zeros_end : (n : ℕ) → some_zeros n ++ 48 ∷ [] ≡ some_zeros (suc n)
zeros_end zero = refl
zeros_end (suc n) = ap (λ ds. 48 ∷ ds) (zeros_end n)

-- the digits of zero
zeros : (count : ℕ) → hex_digits count 0 ≡ some_zeros count
unfolding hex_digits
zeros zero = refl
zeros (suc count) = ap (λ ds. ds ++ 48 ∷ []) (zeros count) ∙ zeros_end count

length_zeros : (n : ℕ) → length (some_zeros n) ≡ n
length_zeros zero = refl
length_zeros (suc n) = let e = length_zeros n in omega (arith, e)

pub length_hex : (count n : ℕ) → length (hex_digits count n) ≡ count
unfolding hex_digits
length_hex zero n = refl
length_hex (suc count) n =
    let e = length_hex count (n / 16) in
    let f = length-append (hex_digits count (n / 16)) (digit_glyph false (n % 16) ∷ []) in
    omega (arith, e, f)

-- the last digit that std writes, and one before others
pub digits_end : (radix k n : ℕ) (acc : List ℕ) → n / radix ≡ 0 →
    digits_onto (suc k) radix false n acc ≡ digit_glyph false (n % radix) ∷ acc
digits_end radix k n acc e =
    let test : eqb (n / radix) 0 ≡ true = grind (arith, nat_tests) in
    simp test refl

pub digits_more : (radix k n : ℕ) (acc : List ℕ) → (n / radix ≡ 0 → ⊥) →
    digits_onto (suc k) radix false n acc
    ≡ digits_onto k radix false (n / radix) (digit_glyph false (n % radix) ∷ acc)
digits_more radix k n acc ne =
    let test : eqb (n / radix) 0 ≡ false = grind (arith, nat_tests) in
    simp test refl

-- the first power, one, is above no number but zero
pub power_left : (radix k n : ℕ) → n < radix ^ k → 0 < n → 0 < k
power_left radix zero n below some = let one = pow-zero radix in absurd (omega (arith, one))
power_left radix (suc k) n below some = omega arith

-- with how many zeros before them the digits that std writes are as many as are wanted
spread : (count k n : ℕ) (acc : List ℕ) → 0 < count → count ≤ k → n < 16 ^ count →
    (j : ℕ) × (some_zeros j ++ digits_onto k 16 false n acc ≡ hex_digits count n ++ acc)
unfolding hex_digits
spread zero k n acc some room small = absurd (omega arith)
spread (suc count) zero n acc some room small = absurd (omega arith)
spread (suc count) (suc k) n acc some room small =
    let digit : List ℕ = digit_glyph false (n % 16) ∷ [] in
    let together = append_assoc (hex_digits count (n / 16)) digit acc in
    elim (cases_eq (n / 16) 0) [
      | inl e ↦
          let all_zeros = ap (hex_digits count) e ∙ zeros count in (
            count,
            ap (λ ds. some_zeros count ++ ds) (digits_end 16 k n acc e)
                ∙ ap (λ ds. ds ++ digit_glyph false (n % 16) ∷ acc) (sym all_zeros)
                ∙ sym together,
          )
      | inr ne ↦
          let power = pow-suc 16 count in
          let below : n / 16 < 16 ^ count = omega (arith, power) in
          let left : 0 < count = power_left 16 count (n / 16) below (omega arith) in
          let behind = digit_glyph false (n % 16) ∷ acc in
          let rest = spread count k (n / 16) behind left (omega arith) below in (
            rest.0,
            ap (λ ds. some_zeros rest.0 ++ ds) (digits_more 16 k n acc ne) ∙ rest.1 ∙ sym together,
          )
    ]

-- digits under a width and a zero, as in `{:08x}`
padded_zeros : (count : ℕ) (ds : List ℕ) →
    padded_integral (format_spec 32 0 4 count (2 ^ 64 - 1)) false [] ds
    ≡ some_zeros (count - length ds) ++ ds
unfolding padded_integral char_count
padded_zeros count ds =
    let none : count - length ds - 0 - 0 ≡ count - length ds = omega arith in
    ap (λ k. some_zeros k ++ (ds ++ [])) none
    ∙ ap (λ l. some_zeros (count - length ds) ++ l) (append-nil ds)

padded : (count n : ℕ) → 0 < count → count ≤ 64 → n < 16 ^ count →
    padded_integral (format_spec 32 0 4 count (2 ^ 64 - 1)) false [] (digits 16 false n)
    ≡ hex_digits count n
unfolding digits
padded count n some room small =
    let found = spread count 64 n [] some room small in
    let e : some_zeros found.0 ++ digits 16 false n ≡ hex_digits count n =
    found.1 ∙ append-nil (hex_digits count n) in
    let both : length (some_zeros found.0) + length (digits 16 false n) ≡ count =
    sym (length-append (some_zeros found.0) (digits 16 false n)) ∙ ap length e
    ∙ length_hex count n in
    let missing : count - length (digits 16 false n) ≡ found.0 =
    omega (arith, both, length_zeros found.0) in
    padded_zeros count (digits 16 false n) ∙ ap (λ k. some_zeros k ++ digits 16 false n) missing ∙ e

-- eight digits of a word
pub hex_8 : (n : ℕ) → n < 2 ^ 32 →
    padded_integral (format_spec 32 0 4 8 (2 ^ 64 - 1)) false [] (digits 16 false n)
    ≡ hex_digits 8 n
hex_8 n small = padded 8 n (omega arith) (omega arith) (omega arith)

-- three digits of a number of 12 bits
pub hex_3 : (n : ℕ) → n < 2 ^ 12 →
    padded_integral (format_spec 32 0 4 3 (2 ^ 64 - 1)) false [] (digits 16 false n)
    ≡ hex_digits 3 n
hex_3 n small = padded 3 n (omega arith) (omega arith) (omega arith)

pub ruleset hexes = (hex_8, hex_3)
