-- What `{:02x}` writes of the lowest byte of a number: its last two digits.
use Rattle.std.proofs.Common.{◌≡◌, ℕ, ◌/◌, ◌%◌, ◌^◌, ◌-◌, false, List, [], ◌∷◌, ◌++◌, ap, ◌∙◌, arith, inl, inr}
use Rattle.std.proofs.lemmas.Bool.{cases_eq}
use Rattle.std.specs.Fmt.{digits, digit_glyph, padded_integral, format_spec, char_count}
use Rattle.rvm_dis.specs.Pieces.{hex_digits}
use Rattle.rvm_dis.proofs.Hex.{digits_end, digits_more}

-- two digits
abbrev two : (high low : ℕ) → List ℕ
two high low = digit_glyph false high ∷ digit_glyph false low ∷ []

-- digits under a width of two and a zero
abbrev padded : List ℕ → List ℕ
padded ds = padded_integral (format_spec 32 0 4 2 (2 ^ 64 - 1)) false [] ds

pub byte : (n : ℕ) →
    padded_integral (format_spec 32 0 4 2 (2 ^ 64 - 1)) false [] (digits 16 false (n % 256)) ≡ hex_digits 2 n
unfolding padded_integral char_count digits hex_digits
byte n =
    let low : n % 256 % 16 ≡ n % 16 = omega arith in
    let high : n % 256 / 16 ≡ n / 16 % 16 = omega arith in
    elim (cases_eq (n % 256 / 16) 0) [
      | inl e ↦
          let none : 0 ≡ n / 16 % 16 = omega (arith, high, e) in
          ap padded (digits_end 16 63 (n % 256) [] e) ∙ ap (λ d. two 0 d) low ∙ ap (λ d. two d (n % 16)) none
      | inr ne ↦
          let last : n % 256 / 16 / 16 ≡ 0 = omega arith in
          let same : n % 256 / 16 % 16 ≡ n / 16 % 16 = omega arith in
          ap padded (digits_more 16 63 (n % 256) [] ne ∙ digits_end 16 62 (n % 256 / 16) (digit_glyph false (n % 256 % 16) ∷ []) last)
          ∙ ap (λ d. two (n % 256 / 16 % 16) d) low ∙ ap (λ d. two d (n % 16)) same
    ]

-- the byte before the lowest, and the lowest
pub half : (n : ℕ) → hex_digits 2 (n / 256) ++ hex_digits 2 n ≡ hex_digits 4 n
unfolding hex_digits
half n =
    let first : n / 256 / 16 ≡ n / 16 / 16 / 16 = omega arith in
    let second : n / 256 ≡ n / 16 / 16 = omega arith in
    ap (λ d. two (d % 16) (n / 256 % 16) ++ two (n / 16 % 16) (n % 16)) first
    ∙ ap (λ d. two (n / 16 / 16 / 16 % 16) (d % 16) ++ two (n / 16 % 16) (n % 16)) second

pub ruleset low_digits = (byte, half)
