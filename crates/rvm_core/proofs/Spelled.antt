-- Letters, numbers, registers and bytes as words, which are read as these again.
use Rattle.std.proofs.Common.{◌≡◌, ℕ, suc, ◌+◌, ◌-◌, ◌*◌, ◌/◌, ◌%◌, ◌^◌, ◌<◌, ◌≤◌, Bool, true, false, not, cond, ◌&&◌, eqb, nat_le, List, [], ◌∷◌, length, slice_index, Option, Some, None, refl, sym, ap, subst, ◌∙◌, arith, eqb-true, inl, inr}
use Rattle.std.specs.Char as char
use Rattle.std.specs.Fmt.{decimal, digits}
use Rattle.std.specs.List.{list_all}
use Rattle.std.specs.Str.Parse as parse
use Rattle.std.proofs.lemmas.Bool.{cases_eq}
use Rattle.std.proofs.lemmas.Bool.Decides.{nat_tests}
use Rattle.std.proofs.lemmas.Fmt.{decimal_is_IsNumeral}
use Rattle.hex.specs.Hex.{IsBytes, encode_lower, encode_with, lower_digits}
use Rattle.hex.proofs.HexLemmas.{length-encode_with}
use Rattle.rvm_dis.proofs.Numbers.{all_below, decimal_no_name, decimal_number, each_below}
use Rattle.rvm_dis.proofs.Reading.{both, first_of, is_one_word, second_of}
use Rattle.rvm_core.specs.EventLines.{letter, register}
use Rattle.rvm_debug.specs.HexBytes.{bytes_in, hex_of, is_hex_digit}
use Rattle.rvm_debug.specs.Lines.{is_comment, numeral, register_in}
use Rattle.rvm_text.specs.Bytes.{is_digit, is_word}
use Rattle.rvm_text.specs.Numbers.{digit_value, number_of}
use Rattle.rvm_text.specs.Tokens.{is_name}
use Rattle.rvm_text.specs.Registers.{abi_names, numbered_names, register_of}
use Rattle.rvm_core.specs.WorldLines.{letter_host}

-- whether the option is this number
abbrev is_some : Option ℕ → ℕ → Bool
is_some None n = false
is_some (Some m) n = eqb m n

some_is : (o : Option ℕ) (n : ℕ) → is_some o n ≡ true → o ≡ Some n
some_is None n e = cc
some_is (Some m) n e = ap Some (eqb-true m n e)

-- the letter of a host is a word that begins no comment, and names that host
abbrev is_letter : ℕ → Bool
is_letter h = is_one_word (letter h) && not (is_comment (letter h))

letters : all_below 8 is_letter ≡ true
letters = refl

hosts : all_below 8 (λ h. is_some (letter_host (letter h)) h) ≡ true
hosts = refl

pub letter_word : (h : ℕ) → h < 8 → is_one_word (letter h) ≡ true
letter_word h below =
    first_of (is_one_word (letter h)) (not (is_comment (letter h))) (each_below 8 is_letter letters h below)

not_true : (b : Bool) → not b ≡ true → b ≡ false
not_true true e = sym e
not_true false e = refl

not_false : (b : Bool) → not b ≡ false → b ≡ true
not_false true e = refl
not_false false e = sym e

pub letter_speaks : (h : ℕ) → h < 8 → is_comment (letter h) ≡ false
letter_speaks h below =
    not_true (is_comment (letter h))
    (second_of (is_one_word (letter h)) (not (is_comment (letter h))) (each_below 8 is_letter letters h below))

pub letter_names : (h : ℕ) → h < 8 → letter_host (letter h) ≡ Some h
letter_names h below =
    some_is (letter_host (letter h)) h (each_below 8 (λ h. is_some (letter_host (letter h)) h) hosts h below)

-- decimal digits are a number, since no b stands after a 0
no_b : (b : ℕ) → char.digit_value b < 10 → eqb b 98 ≡ false
no_b b digit =
    elim (cases_eq b 98) [
      | inl e ↦ let no = subst (λ n. char.digit_value n < 10) e digit in absurd (omega arith)
      | inr ne ↦ grind (arith, nat_tests)
    ]

and_false : (b : Bool) → (b && false) ≡ false
and_false true = refl
and_false false = refl

decimal_is : (ds : List ℕ) → parse.AllDigits 10 ds → numeral ds ≡ number_of ds
decimal_is [] all = refl
decimal_is (a ∷ []) all = refl
decimal_is (a ∷ b ∷ bs) all =
    let number = number_of (a ∷ b ∷ bs) in
    ap (λ t. cond (eqb a 48 && t) None number) (no_b b all.1.0)
    ∙ ap (λ t. cond t None number) (and_false (eqb a 48))

pub numeral_decimal : (n : ℕ) → n < 2 ^ 32 → numeral (decimal n) ≡ Some n
numeral_decimal n below =
    decimal_is (decimal n) (decimal_is_IsNumeral n (omega arith)).0.1 ∙ decimal_number n below

-- decimal digits are the letter of no host
no_letter : (w : List ℕ) → is_name w ≡ false → letter_host w ≡ None
no_letter [] is = refl
no_letter (b ∷ []) is =
    let digit : is_digit b ≡ true = not_false (is_digit b) is in
    let below : nat_le 65 b ≡ false = grind (arith, nat_tests) in
    ap (λ t. cond (t && nat_le b 72) (Some (b - 65)) None) below
no_letter (b ∷ c ∷ bs) is = refl

pub decimal_no_letter : (n : ℕ) → letter_host (decimal n) ≡ None
decimal_no_letter n = no_letter (decimal n) (decimal_no_name n)

-- a register is a word, and its own name
abbrev is_register : ℕ → Bool
is_register r = is_one_word (register r) && is_some (register_in (register r)) r

registers : all_below 33 is_register ≡ true
unfolding digits register_in register_of abi_names numbered_names
registers = refl

pub register_word : (r : ℕ) → r ≤ 32 → is_one_word (register r) ≡ true
register_word r most =
    first_of (is_one_word (register r)) (is_some (register_in (register r)) r)
    (each_below 33 is_register registers r (omega arith))

pub register_names : (r : ℕ) → r ≤ 32 → register_in (register r) ≡ Some r
register_names r most =
    some_is (register_in (register r)) r
    (second_of (is_one_word (register r)) (is_some (register_in (register r)) r)
    (each_below 33 is_register registers r (omega arith)))

-- the digit of four bits, which is a byte of a word and has their value
abbrev digit_at : ℕ → ℕ
digit_at d = slice_index lower_digits d

hex_words : all_below 16 (λ d. is_word (digit_at d)) ≡ true
hex_words = refl

hex_word : (d : ℕ) → d < 16 → is_word (digit_at d) ≡ true
hex_word = each_below 16 (λ d. is_word (digit_at d)) hex_words

hex_values : all_below 16 (λ d. eqb (digit_value (digit_at d)) d) ≡ true
hex_values = refl

hex_value : (d : ℕ) → d < 16 → digit_value (digit_at d) ≡ d
hex_value d below =
    eqb-true (digit_value (digit_at d)) d
    (each_below 16 (λ d. eqb (digit_value (digit_at d)) d) hex_values d below)

hex_digit : (d : ℕ) → d < 16 → is_hex_digit (digit_at d) ≡ true
hex_digit d below =
    let value = hex_value d below in
    let inside : digit_value (digit_at d) < 16 = omega arith in
    grind (arith, nat_tests)

-- a test that each digit passes is passed by all digits of bytes
digits_pass : (test : ℕ → Bool) → ((d : ℕ) → d < 16 → test (digit_at d) ≡ true) → (bs : List ℕ) → IsBytes bs
    → list_all test (encode_lower bs) ≡ true
unfolding encode_with
digits_pass test each [] bytes = refl
digits_pass test each (b ∷ bs) bytes =
    let fits : b < 256 = bytes 0 in
    let low = digit_at (b % 16) in
    let rest = encode_lower bs in
    both (test (digit_at (b / 16))) (test low && list_all test rest) (each (b / 16) (omega arith))
    (both (test low) (list_all test rest) (each (b % 16) (omega arith)) (digits_pass test each bs (λ k. bytes (suc k))))

bytes_read : (bs : List ℕ) → IsBytes bs → bytes_in (encode_lower bs) ≡ bs
unfolding encode_with bytes_in
bytes_read [] bytes = refl
bytes_read (b ∷ bs) bytes =
    let fits : b < 256 = bytes 0 in
    let whole : b / 16 * 16 + b % 16 ≡ b = omega arith in
    let rest = bytes_in (encode_lower bs) in
    ap (λ v. (v * 16 + digit_value (digit_at (b % 16))) ∷ rest) (hex_value (b / 16) (omega arith))
    ∙ ap (λ v. (b / 16 * 16 + v) ∷ rest) (hex_value (b % 16) (omega arith))
    ∙ ap (λ v. v ∷ rest) whole ∙ ap (λ v. b ∷ v) (bytes_read bs (λ k. bytes (suc k)))

one_word : (w : List ℕ) → list_all is_word w ≡ true → 0 < length w → is_one_word w ≡ true
one_word [] all some = absurd (omega arith)
one_word (b ∷ w) all some = all

pub hex_is_word : (bs : List ℕ) → IsBytes bs → 0 < length bs → is_one_word (encode_lower bs) ≡ true
hex_is_word bs bytes some =
    let size = length-encode_with lower_digits bs in
    one_word (encode_lower bs) (digits_pass is_word hex_word bs bytes) (omega (arith, size, some))

-- bytes as digits are read as these bytes
pub hex_reads : (bs : List ℕ) → IsBytes bs → 0 < length bs → hex_of (encode_lower bs) ≡ Some bs
unfolding hex_of
hex_reads bs bytes some =
    let word = encode_lower bs in
    let size = length-encode_with lower_digits bs in
    let all = digits_pass is_hex_digit hex_digit bs bytes in
    let even : eqb (length word % 2) 0 ≡ true = let e : length word % 2 ≡ 0 = omega (arith, size) in grind (arith, nat_tests) in
    let filled : not (eqb (length word) 0) ≡ true = let e : 0 < length word = omega (arith, size, some) in grind (arith, nat_tests) in
    ap (λ t. cond t (Some (bytes_in word)) None)
    (both (list_all is_hex_digit word && eqb (length word % 2) 0) (not (eqb (length word) 0))
    (both (list_all is_hex_digit word) (eqb (length word % 2) 0) all even) filled)
    ∙ ap Some (bytes_read bs bytes)
