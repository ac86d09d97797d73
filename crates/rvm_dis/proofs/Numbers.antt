-- Numbers as they are written, read again.
use Rattle.std.proofs.Common.{◌≡◌, ℕ, zero, suc, ◌+◌, ◌*◌, ◌/◌, ◌%◌, ◌^◌, ◌<◌, ◌≤◌, Bool, true, false, not, cond, ◌&&◌, eqb, nat_lt, List, [], ◌∷◌, ◌++◌, length, Some, None, refl, sym, ap, ◌∙◌, arith, append_assoc, inl, inr, pow-suc, div-add-mod', div-lt_iff_lt-mul, div-le_self, mod-lt, eqb-true, subst}
use Rattle.std.specs.List.{list_all}
use Rattle.std.proofs.lemmas.Bool.{cases_eq}
use Rattle.std.proofs.lemmas.Bool.Decides.{nat_tests}
use Rattle.std.proofs.lemmas.List.{append-nil}
use Rattle.std.proofs.lemmas.List.Folds.{list_all-append}
use Rattle.std.specs.Fmt.{digits, digits_onto, digit_glyph, decimal}
use Rattle.rvm_text.specs.Bytes.{is_word, is_digit}
use Rattle.rvm_text.specs.Numbers.{digit_value, number_after, number_in, number_of}
use Rattle.rvm_text.specs.Tokens.{is_name}
use Rattle.rvm_dis.specs.Pieces.{hex_digits, hex, short_hex}
use Rattle.rvm_dis.proofs.Hex.{length_hex, digits_end, digits_more, power_left}
use Rattle.rvm_dis.proofs.Reading.{is_one_word, first_of, second_of, both}

-- a test passes of each number below n
abbrev pub all_below : (n : ℕ) → (ℕ → Bool) → Bool
all_below zero test = true
all_below (suc n) test = test n && all_below n test

pub each_below : (n : ℕ) (test : ℕ → Bool) → all_below n test ≡ true → (m : ℕ) → m < n →
    test m ≡ true
each_below zero test all m below = absurd (omega arith)
each_below (suc n) test all m below =
    elim (cases_eq m n) [
      | inl e ↦ ap test e ∙ first_of (test n) (all_below n test) all
      | inr ne ↦ each_below n test (second_of (test n) (all_below n test) all) m (omega arith)
    ]

-- digits as they are written

word_digits : all_below 16 (λ d. is_word (digit_glyph false d)) ≡ true
word_digits = refl

word_digit : (d : ℕ) → d < 16 → is_word (digit_glyph false d) ≡ true
word_digit = each_below 16 (λ d. is_word (digit_glyph false d)) word_digits

decimal_digits : all_below 10 (λ d. is_digit (digit_glyph false d)) ≡ true
decimal_digits = refl

decimal_digit : (d : ℕ) → d < 10 → is_digit (digit_glyph false d) ≡ true
decimal_digit = each_below 10 (λ d. is_digit (digit_glyph false d)) decimal_digits

valued_digits : all_below 16 (λ d. eqb (digit_value (digit_glyph false d)) d) ≡ true
valued_digits = refl

valued_digit : (d : ℕ) → d < 16 → digit_value (digit_glyph false d) ≡ d
valued_digit d below =
    eqb-true (digit_value (digit_glyph false d)) d
    (each_below 16 (λ d. eqb (digit_value (digit_glyph false d)) d) valued_digits d below)

-- a digit more is read
digit_read : (radix n d : ℕ) (bs : List ℕ) → radix ≤ 16 → d < radix → n * radix + d < 2 ^ 32 →
    number_after radix n (digit_glyph false d ∷ bs) ≡ number_after radix (n * radix + d) bs
digit_read radix n d bs known below fits =
    let value = valued_digit d (omega arith) in
    let test : (nat_lt d radix && nat_lt (n * radix + d) (2 ^ 32)) ≡ true =
    grind (arith, nat_tests) in
    ap (λ v. cond (nat_lt v radix && nat_lt (n * radix + v) (2 ^ 32))
    (number_after radix (n * radix + v) bs) None) value
    ∙ ap (λ t. cond t (number_after radix (n * radix + d) bs) None) test

-- all digits of a number are read
digits_read : (radix k n : ℕ) (acc : List ℕ) → 2 ≤ radix → radix ≤ 16 → 0 < k → n < radix ^ k →
    n < 2 ^ 32 → number_after radix 0 (digits_onto k radix false n acc) ≡ number_after radix n acc
digits_read radix zero n acc two known some room fits = absurd (omega arith)
digits_read radix (suc k) n acc two known some room fits =
    let whole : n / radix * radix + n % radix ≡ n = div-add-mod' n radix in
    let last : n % radix < radix = mod-lt n (omega arith) in
    elim (cases_eq (n / radix) 0) [
      | inl e ↦
          let none : n / radix * radix ≡ 0 = ap (λ m. m * radix) e ∙ omega arith in
          let same : 0 * radix + n % radix ≡ n = omega arith in
          ap (number_after radix 0) (digits_end radix k n acc e)
          ∙ digit_read radix 0 (n % radix) acc known last (omega arith)
          ∙ ap (λ m. number_after radix m acc) same
      | inr ne ↦
          let more : n < radix ^ k * radix = subst (λ m. n < m) (pow-suc radix k) room in
          let below : n / radix < radix ^ k =
          (div-lt_iff_lt-mul {k = radix} {x = n} {y = radix ^ k} (omega arith)).1 more in
          let left : 0 < k = power_left radix k (n / radix) below (omega arith) in
          let small : n / radix < 2 ^ 32 = omega (arith, div-le_self n radix) in
          let digit = digit_glyph false (n % radix) in
          ap (number_after radix 0) (digits_more radix k n acc ne)
          ∙ digits_read radix k (n / radix) (digit ∷ acc) two known left below small
          ∙ digit_read radix (n / radix) (n % radix) acc known last (omega arith)
          ∙ ap (λ m. number_after radix m acc) whole
    ]

-- what all digits of a radix pass, all digits of a number pass
digits_pass : (test : ℕ → Bool) (radix k n : ℕ) (acc : List ℕ) → 0 < radix →
    ((d : ℕ) → d < radix → test (digit_glyph false d) ≡ true) → list_all test acc ≡ true →
    list_all test (digits_onto k radix false n acc) ≡ true
digits_pass test radix zero n acc some each all = all
digits_pass test radix (suc k) n acc some each all =
    let digit = digit_glyph false (n % radix) in
    let more : list_all test (digit ∷ acc) ≡ true =
    both (test digit) (list_all test acc) (each (n % radix) (mod-lt n some)) all in
    chosen (eqb (n / radix) 0) (digit ∷ acc) (digits_onto k radix false (n / radix) (digit ∷ acc))
    more (digits_pass test radix k (n / radix) (digit ∷ acc) some each more)
  where
    chosen : (b : Bool) (xs ys : List ℕ) → list_all test xs ≡ true → list_all test ys ≡ true →
        list_all test (cond b xs ys) ≡ true
    chosen true xs ys p q = p
    chosen false xs ys p q = q

digits_some : (radix k n : ℕ) (acc : List ℕ) → 0 < k + length acc →
    0 < length (digits_onto k radix false n acc)
digits_some radix zero n acc some = omega arith
digits_some radix (suc k) n acc some =
    let digit = digit_glyph false (n % radix) in
    chosen (eqb (n / radix) 0) (digit ∷ acc) (digits_onto k radix false (n / radix) (digit ∷ acc))
    (omega arith) (digits_some radix k (n / radix) (digit ∷ acc) (omega arith))
  where
    chosen : (b : Bool) (xs ys : List ℕ) → 0 < length xs → 0 < length ys → 0 < length (cond b xs ys)
    chosen true xs ys p q = p
    chosen false xs ys p q = q

one_word : (w : List ℕ) → list_all is_word w ≡ true → 0 < length w → is_one_word w ≡ true
one_word [] all some = absurd (omega arith)
one_word (b ∷ w) all some = all

-- decimal digits spell a number, and no name

and_false : (b : Bool) → (b && false) ≡ false
and_false true = refl
and_false false = refl

digits_number : (ds : List ℕ) → list_all is_digit ds ≡ true → 0 < length ds →
    number_of ds ≡ number_after 10 0 ds
digits_number [] all some = absurd (omega arith)
digits_number (a ∷ []) all some = refl
digits_number (a ∷ b ∷ bs) all some =
    let behind = second_of (is_digit a) (is_digit b && list_all is_digit bs) all in
    let digit = first_of (is_digit b) (list_all is_digit bs) behind in
    let no_x : eqb b 120 ≡ false = grind (arith, nat_tests) in
    let no_b : eqb b 98 ≡ false = grind (arith, nat_tests) in
    let ten = number_after 10 0 (a ∷ b ∷ bs) in
    ap (λ t. cond (eqb a 48 && t) (number_in 16 bs)
    (cond (eqb a 48 && eqb b 98) (number_in 2 bs) ten)) no_x
    ∙ ap (λ t. cond t (number_in 16 bs) (cond (eqb a 48 && eqb b 98) (number_in 2 bs) ten))
    (and_false (eqb a 48))
    ∙ ap (λ t. cond (eqb a 48 && t) (number_in 2 bs) ten) no_b
    ∙ ap (λ t. cond t (number_in 2 bs) ten) (and_false (eqb a 48))

digits_no_name : (ds : List ℕ) → list_all is_digit ds ≡ true → 0 < length ds → is_name ds ≡ false
digits_no_name [] all some = absurd (omega arith)
digits_no_name (b ∷ bs) all some = ap not (first_of (is_digit b) (list_all is_digit bs) all)

decimal_all : (n : ℕ) → list_all is_digit (decimal n) ≡ true
unfolding digits
decimal_all n = digits_pass is_digit 10 64 n [] (omega arith) decimal_digit refl

decimal_some : (n : ℕ) → 0 < length (decimal n)
unfolding digits
decimal_some n = digits_some 10 64 n [] (omega arith)

pub decimal_number : (n : ℕ) → n < 2 ^ 32 → number_of (decimal n) ≡ Some n
unfolding digits
decimal_number n fits =
    digits_number (decimal n) (decimal_all n) (decimal_some n)
    ∙ digits_read 10 64 n [] (omega arith) (omega arith) (omega arith) (omega arith) fits

pub decimal_no_name : (n : ℕ) → is_name (decimal n) ≡ false
decimal_no_name n = digits_no_name (decimal n) (decimal_all n) (decimal_some n)

pub decimal_word : (n : ℕ) → is_one_word (decimal n) ≡ true
unfolding digits
decimal_word n =
    one_word (decimal n)
    (digits_pass is_word 10 64 n [] (omega arith) (λ d below. word_digit d (omega arith)) refl)
    (decimal_some n)

-- hexadecimal digits after 0x

number_16 : (ds : List ℕ) → 0 < length ds → number_in 16 ds ≡ number_after 16 0 ds
number_16 [] some = absurd (omega arith)
number_16 (b ∷ bs) some = refl

pub short_hex_number : (n : ℕ) → n < 2 ^ 32 → number_of (short_hex n) ≡ Some n
unfolding digits
short_hex_number n fits =
    number_16 (digits 16 false n) (digits_some 16 64 n [] (omega arith))
    ∙ digits_read 16 64 n [] (omega arith) (omega arith) (omega arith) (omega arith) fits

pub short_hex_word : (n : ℕ) → is_one_word (short_hex n) ≡ true
unfolding digits
short_hex_word n = digits_pass is_word 16 64 n [] (omega arith) word_digit refl

hexes_read : (count n : ℕ) (acc : List ℕ) → n < 16 ^ count → n < 2 ^ 32 →
    number_after 16 0 (hex_digits count n ++ acc) ≡ number_after 16 n acc
unfolding hex_digits
hexes_read zero n acc below fits =
    let none : 0 ≡ n = omega arith in ap (λ m. number_after 16 m acc) none
hexes_read (suc count) n acc below fits =
    let power = pow-suc 16 count in
    let digit = digit_glyph false (n % 16) in
    let whole : n / 16 * 16 + n % 16 ≡ n = omega arith in
    ap (number_after 16 0) (append_assoc (hex_digits count (n / 16)) (digit ∷ []) acc)
    ∙ hexes_read count (n / 16) (digit ∷ acc) (omega (arith, power)) (omega arith)
    ∙ digit_read 16 (n / 16) (n % 16) acc (omega arith) (omega arith) (omega arith)
    ∙ ap (λ m. number_after 16 m acc) whole

hexes_word : (count n : ℕ) → list_all is_word (hex_digits count n) ≡ true
unfolding hex_digits
hexes_word zero n = refl
hexes_word (suc count) n =
    let digit = digit_glyph false (n % 16) in
    list_all-append is_word (hex_digits count (n / 16)) (digit ∷ [])
    ∙ both (list_all is_word (hex_digits count (n / 16))) (list_all is_word (digit ∷ []))
    (hexes_word count (n / 16))
    (both (is_word digit) true (word_digit (n % 16) (omega arith)) refl)

pub hex_number : (count n : ℕ) → 0 < count → n < 16 ^ count → n < 2 ^ 32 →
    number_of (hex count n) ≡ Some n
hex_number count n some below fits =
    number_16 (hex_digits count n) (let e = length_hex count n in omega (arith, e))
    ∙ ap (number_after 16 0) (sym (append-nil (hex_digits count n)))
    ∙ hexes_read count n [] below fits

pub hex_word : (count n : ℕ) → is_one_word (hex count n) ≡ true
hex_word count n = hexes_word count n
