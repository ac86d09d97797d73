-- Operands as they are written, read again.
use Rattle.std.proofs.Common.{◌≡◌, ℕ, suc, ◌+◌, ◌-◌, ◌%◌, ◌^◌, ◌<◌, ◌≤◌, ℤ, pos, negsuc, ◌+ℤ◌, Bool, true, false, eqb, nat_lt, nat_le, List, [], ◌∷◌, ◌++◌, Option, Some, None, Ok, refl, ap, ◌∙◌, arith, inl, inr, eqb-true}
use Rattle.std.proofs.lemmas.Bool.{cases_lt}
use Rattle.std.proofs.lemmas.Bool.Decides.{nat_tests}
use Rattle.std.specs.Fmt.{decimal, signed_decimal}
use Rattle.std.proofs.lemmas.Int.{ints}
use Rattle.rvm_word.specs.Word.{signed_value, modulo, FitsSignedBits}
use Rattle.rvm_word.proofs.Signed.{lower, upper, modulo-add, modulo_below, signed_value_fits}
use Rattle.rvm_text.specs.Lexemes.{Lexeme, Word, Mark}
use Rattle.rvm_text.specs.Numbers.{number_of}
use Rattle.rvm_text.specs.Registers.{register_of, name_of, abi_names, numbered_names}
use Rattle.rvm_text.specs.Tokens.{is_name}
use Rattle.rvm_asm.specs.Csrs.{csr_of, csr_numbers, csr_comma}
use Rattle.rvm_asm.specs.declared.grammar.Operand.{Operand}
use Rattle.rvm_asm.specs.declared.grammar.Operand.TheVariants as operand
use Rattle.rvm_asm.specs.Grammar.{any_names, behind, more_operands_at}
use Rattle.rvm_asm.specs.Operands.{signed_field, offset_field, distance, last_target, last_immediate, last_below}
use Rattle.rvm_asm.specs.Reading.{◌>>=◌, register_comma, last_register, last_address}
use Rattle.rvm_asm.specs.Values.{Names, value_at, last_value, fits_signed}
use Rattle.rvm_dis.specs.Pieces.{hex, hex_digits, short_hex, target}
use Rattle.rvm_dis.proofs.Numbers.{all_below, each_below, decimal_number, decimal_no_name, decimal_word, short_hex_number, hex_number}
use Rattle.rvm_dis.proofs.Reading.{Reads, Stops, is_one_word, word, last_word, mark}

-- registers

abbrev is_number : ℕ → Option ℕ → Bool
is_number n None = false
is_number n (Some m) = eqb m n

number_is : (n : ℕ) (o : Option ℕ) → is_number n o ≡ true → o ≡ Some n
number_is n None e = cc
number_is n (Some m) e = ap Some (eqb-true m n e)

names_are_read : all_below 32 (λ r. is_number r (register_of (name_of r))) ≡ true
unfolding register_of name_of abi_names numbered_names
names_are_read = refl

names_are_words : all_below 32 (λ r. is_one_word (name_of r)) ≡ true
unfolding name_of abi_names
names_are_words = refl

pub register_word : (r : ℕ) → r < 32 → is_one_word (name_of r) ≡ true
register_word = each_below 32 (λ r. is_one_word (name_of r)) names_are_words

register_read : (r : ℕ) → r < 32 → register_of (name_of r) ≡ Some r
register_read r inside =
    number_is r (register_of (name_of r))
    (each_below 32 (λ r. is_number r (register_of (name_of r))) names_are_read r inside)

pub register_first : (r : ℕ) (ts : List Lexeme) → r < 32 →
    register_comma (Word (name_of r) ∷ Mark 44 ∷ ts) ≡ Ok (r, ts)
unfolding register_comma
register_first r ts inside = rw (register_read r inside) refl

pub register_last : (r : ℕ) → r < 32 → last_register (Word (name_of r) ∷ []) ≡ Ok r
unfolding last_register
register_last r inside = rw (register_read r inside) refl

pub base_last : (r : ℕ) → r < 32 → last_address (Mark 40 ∷ Word (name_of r) ∷ Mark 41 ∷ []) ≡ Ok r
unfolding last_address
base_last r inside = rw (register_read r inside) refl

-- numbers

number_first : (names : Names) (w : List ℕ) (n : ℕ) (ts : List Lexeme) → is_name w ≡ false →
    number_of w ≡ Some n →
    value_at names (Word w ∷ ts) ≡ Ok (n, ts)
unfolding value_at
number_first names w n ts no_name number = rw (no_name, number) refl

number_last : (names : Names) (w : List ℕ) (n : ℕ) → is_name w ≡ false → number_of w ≡ Some n →
    last_value names (Word w ∷ []) ≡ Ok n
unfolding last_value
number_last names w n no_name number = rw (number_first names w n [] no_name number) refl

pub decimal_below : (names : Names) (limit n : ℕ) → n < limit → n < 2 ^ 32 →
    last_below names limit (Word (decimal n) ∷ []) ≡ Ok n
unfolding last_below
decimal_below names limit n inside fits =
    let test : nat_lt n limit ≡ true = grind (arith, nat_tests) in
    rw (number_last names (decimal n) n (decimal_no_name n) (decimal_number n fits), test) refl

pub short_hex_below : (names : Names) (limit n : ℕ) → n < limit → n < 2 ^ 32 →
    last_below names limit (Word (short_hex n) ∷ []) ≡ Ok n
unfolding last_below
short_hex_below names limit n inside fits =
    let test : nat_lt n limit ≡ true = grind (arith, nat_tests) in
    rw (number_last names (short_hex n) n refl (short_hex_number n fits), test) refl

pub word_last : (names : Names) (n : ℕ) → n < 2 ^ 32 → last_value names (Word (hex 8 n) ∷ []) ≡ Ok n
word_last names n fits =
    number_last names (hex 8 n) n refl
    (hex_number 8 n (omega arith) (omega arith) fits)

csr_unnamed : (ds : List ℕ) → csr_of (48 ∷ ds) ≡ None
unfolding csr_of csr_numbers
csr_unnamed ds = refl

pub csr_first : (n : ℕ) (ts : List Lexeme) → n < 2 ^ 12 →
    csr_comma (Word (hex 3 n) ∷ Mark 44 ∷ ts) ≡ Ok (n, ts)
unfolding csr_comma
csr_first n ts inside =
    let number = hex_number 3 n (omega arith) (omega arith) (omega arith) in
    let test : nat_lt n 4096 ≡ true = grind (arith, nat_tests) in
    rw (csr_unnamed (120 ∷ hex_digits 3 n), number, test) refl

-- signed numbers of this many bits, widened to words

abbrev pub wide : (bits n : ℕ) → ℕ
wide bits n = modulo 32 (signed_value bits n)

wide_low : (bits n : ℕ) → n < 2 ^ (bits - 1) → n < 2 ^ 32 → wide bits n ≡ n
wide_low bits n low fits = ap (modulo 32) (lower bits n low) ∙ omega arith

wide_high : (bits n : ℕ) → 2 ^ (bits - 1) ≤ n → n < 2 ^ bits → 2 ^ bits ≤ 2 ^ 32 →
    wide bits n + 2 ^ bits ≡ 2 ^ 32 + n
wide_high bits n high inside fits =
    let e = ap (modulo 32) (upper bits n (2 ^ bits - suc n) high (omega arith)) in
    omega (arith, e)

-- a widened number is in range, and its low bits are the number
record Widened (bits n wide : ℕ) : Type 0 where
  pub fits : fits_signed bits wide ≡ true
  pub bits_are : wide % 2 ^ bits ≡ n
  pub parity : wide % 2 ≡ n % 2

widened_12 : (n : ℕ) → n < 2 ^ 12 → Widened 12 n (wide 12 n)
widened_12 n inside =
    elim (cases_lt n (2 ^ 11)) [
      | inl low ↦
          let e = wide_low 12 n low (omega arith) in
          record {
            fits = grind (arith, nat_tests);
            bits_are = omega (arith, e);
            parity = omega (arith, e);
          }
      | inr high ↦
          let e = wide_high 12 n high inside (omega arith) in
          record {
            fits = grind (arith, nat_tests);
            bits_are = omega (arith, e);
            parity = omega (arith, e);
          }
    ]

widened_13 : (n : ℕ) → n < 2 ^ 13 → Widened 13 n (wide 13 n)
widened_13 n inside =
    elim (cases_lt n (2 ^ 12)) [
      | inl low ↦
          let e = wide_low 13 n low (omega arith) in
          record {
            fits = grind (arith, nat_tests);
            bits_are = omega (arith, e);
            parity = omega (arith, e);
          }
      | inr high ↦
          let e = wide_high 13 n high inside (omega arith) in
          record {
            fits = grind (arith, nat_tests);
            bits_are = omega (arith, e);
            parity = omega (arith, e);
          }
    ]

widened_21 : (n : ℕ) → n < 2 ^ 21 → Widened 21 n (wide 21 n)
widened_21 n inside =
    elim (cases_lt n (2 ^ 20)) [
      | inl low ↦
          let e = wide_low 21 n low (omega arith) in
          record {
            fits = grind (arith, nat_tests);
            bits_are = omega (arith, e);
            parity = omega (arith, e);
          }
      | inr high ↦
          let e = wide_high 21 n high inside (omega arith) in
          record {
            fits = grind (arith, nat_tests);
            bits_are = omega (arith, e);
            parity = omega (arith, e);
          }
    ]

-- targets

offset_read : (bits n v : ℕ) → Widened bits n v → n % 2 ≡ 0 →
    offset_field bits v ≡ Ok (signed_value bits n)
offset_read bits n v w even =
    let test : eqb (v % 2) 0 ≡ true = let e = w.parity in grind (arith, nat_tests) in
    rw (test, w.fits, w.bits_are) refl

distance_is : (a : ℕ) (z : ℤ) → a < 2 ^ 32 → distance (target a z) a ≡ modulo 32 z
distance_is a z inside =
    let e = modulo-add a z in
    let m = modulo_below 32 z in
    omega (arith, e, m)

target_read : (names : Names) (bits a n : ℕ) → a < 2 ^ 32 → Widened bits n (wide bits n) →
    n % 2 ≡ 0 →
    last_target names bits a (Word (hex 8 (target a (signed_value bits n))) ∷ [])
    ≡ Ok (signed_value bits n)
unfolding last_target
target_read names bits a n inside w even =
    let z = signed_value bits n in
    rw (word_last names (target a z) (modulo_below 32 (pos a +ℤ z)), distance_is a z inside)
    (offset_read bits n (wide bits n) w even)

pub branch_target : (names : Names) (a n : ℕ) → a < 2 ^ 32 → n < 2 ^ 13 → n % 2 ≡ 0 →
    last_target names 13 a (Word (hex 8 (target a (signed_value 13 n))) ∷ [])
    ≡ Ok (signed_value 13 n)
branch_target names a n inside field even =
    target_read names 13 a n inside (widened_13 n field) even

pub jump_target : (names : Names) (a n : ℕ) → a < 2 ^ 32 → n < 2 ^ 21 → n % 2 ≡ 0 →
    last_target names 21 a (Word (hex 8 (target a (signed_value 21 n))) ∷ [])
    ≡ Ok (signed_value 21 n)
jump_target names a n inside field even = target_read names 21 a n inside (widened_21 n field) even

-- immediates

-- a signed number as it is written
abbrev pub signed_lexemes : ℤ → List Lexeme
signed_lexemes (pos n) = Word (decimal n) ∷ []
signed_lexemes (negsuc n) = Mark 45 ∷ Word (decimal (suc n)) ∷ []

pub signed_reads : {rest : List ℕ} {ts : List Lexeme} (z : ℤ) → Reads rest ts → Stops rest →
    Reads (signed_decimal z ++ rest) (signed_lexemes z ++ ts)
signed_reads (pos n) reads stops = word (decimal n) (decimal_word n) reads stops
signed_reads (negsuc n) reads stops =
    mark 45 refl
    (word (decimal (suc n)) (decimal_word (suc n)) reads stops)

pub last_signed_reads : (z : ℤ) → Reads (signed_decimal z) (signed_lexemes z)
last_signed_reads (pos n) = last_word (decimal n) (decimal_word n)
last_signed_reads (negsuc n) = mark 45 refl (last_word (decimal (suc n)) (decimal_word (suc n)))

minus_number : (n : ℕ) → n < 2 ^ 31 → (2 ^ 32 - suc n) % 2 ^ 32 ≡ modulo 32 (negsuc n)
minus_number n inside = omega arith

signed_last : (names : Names) (z : ℤ) → FitsSignedBits 12 z →
    last_value names (signed_lexemes z) ≡ Ok (modulo 32 z)
unfolding last_value value_at
signed_last names (pos n) inside =
    let small : n < 2 ^ 32 = omega (arith, ints) in
    let e : n ≡ n % 2 ^ 32 = omega arith in
    number_last names (decimal n) n (decimal_no_name n) (decimal_number n small) ∙ ap Ok e
signed_last names (negsuc n) inside =
    let small : n < 2 ^ 31 = omega (arith, ints) in
    let test : nat_le (suc n) (2 ^ 31) ≡ true = grind (arith, nat_tests) in
    rw (decimal_number (suc n) (omega arith), test) (ap Ok (minus_number n small))

signed_first : (names : Names) (z : ℤ) (ts : List Lexeme) → FitsSignedBits 12 z →
    value_at names (signed_lexemes z ++ Mark 40 ∷ ts) ≡ Ok (modulo 32 z, Mark 40 ∷ ts)
unfolding value_at
signed_first names (pos n) ts inside =
    let small : n < 2 ^ 32 = omega (arith, ints) in
    let e : n ≡ n % 2 ^ 32 = omega arith in
    number_first names (decimal n) n (Mark 40 ∷ ts) (decimal_no_name n) (decimal_number n small)
    ∙ ap (λ m. Ok (m, Mark 40 ∷ ts)) e
signed_first names (negsuc n) ts inside =
    let small : n < 2 ^ 31 = omega (arith, ints) in
    let test : nat_le (suc n) (2 ^ 31) ≡ true = grind (arith, nat_tests) in
    rw (decimal_number (suc n) (omega arith), test)
    (ap (λ m. Ok (m, Mark 40 ∷ ts)) (minus_number n small))

pub immediate_field : (n : ℕ) → n < 2 ^ 12 → signed_field 12 (wide 12 n) ≡ Ok (signed_value 12 n)
immediate_field n inside = let w = widened_12 n inside in rw (w.fits, w.bits_are) refl

pub immediate_last : (names : Names) (n : ℕ) → n < 2 ^ 12 →
    last_immediate names (signed_lexemes (signed_value 12 n)) ≡ Ok (signed_value 12 n)
unfolding last_immediate
immediate_last names n inside =
    rw (signed_last names (signed_value 12 n) (signed_value_fits 12 n (omega arith) inside))
    (immediate_field n inside)

pub immediate_first : (names : Names) (n : ℕ) (ts : List Lexeme) → n < 2 ^ 12 →
    value_at names (signed_lexemes (signed_value 12 n) ++ Mark 40 ∷ ts)
    ≡ Ok (wide 12 n, Mark 40 ∷ ts)
immediate_first names n ts inside =
    signed_first names (signed_value 12 n) ts (signed_value_fits 12 n (omega arith) inside)

-- the shapes of operands: one that another follows, and the last one

abbrev pub Follows : Operand → (ts rest : List Lexeme) → Type 0
Follows o ts rest =
    (p : Operand) (ps : List Operand) → (behind o ts >>= more_operands_at (p ∷ ps))
    ≡ (behind p rest >>= more_operands_at ps)

abbrev pub IsLast : Operand → List Lexeme → Type 0
IsLast o ts = (behind o ts >>= more_operands_at []) ≡ Ok tt

pub register_follows : (r : ℕ) (ts : List Lexeme) → r < 32 →
    Follows operand.Register (Word (name_of r) ∷ Mark 44 ∷ ts) ts
unfolding behind more_operands_at
register_follows r ts inside p ps = rw (register_read r inside) refl

pub register_is_last : (r : ℕ) → r < 32 → IsLast operand.Register (Word (name_of r) ∷ [])
unfolding behind more_operands_at
register_is_last r inside = rw (register_read r inside) refl

pub base_is_last : (r : ℕ) → r < 32 →
    IsLast operand.Base (Mark 40 ∷ Word (name_of r) ∷ Mark 41 ∷ [])
unfolding behind more_operands_at
base_is_last r inside = rw (register_read r inside) refl

pub csr_follows : (n : ℕ) (ts : List Lexeme) → n < 2 ^ 12 →
    Follows operand.Csr (Word (hex 3 n) ∷ Mark 44 ∷ ts) ts
unfolding behind more_operands_at
csr_follows n ts inside p ps =
    let number = hex_number 3 n (omega arith) (omega arith) (omega arith) in
    rw (csr_unnamed (120 ∷ hex_digits 3 n), number) refl

value_is_last : (v : ℕ) (ts : List Lexeme) → value_at any_names ts ≡ Ok (v, []) →
    IsLast operand.Value ts
unfolding behind more_operands_at
value_is_last v ts e = rw e refl

pub decimal_is_last : (n : ℕ) → n < 2 ^ 32 → IsLast operand.Value (Word (decimal n) ∷ [])
decimal_is_last n fits =
    value_is_last n (Word (decimal n) ∷ [])
    (number_first any_names (decimal n) n [] (decimal_no_name n) (decimal_number n fits))

pub short_hex_is_last : (n : ℕ) → n < 2 ^ 32 → IsLast operand.Value (Word (short_hex n) ∷ [])
short_hex_is_last n fits =
    value_is_last n (Word (short_hex n) ∷ [])
    (number_first any_names (short_hex n) n [] refl (short_hex_number n fits))

pub word_is_last : (n : ℕ) → n < 2 ^ 32 → IsLast operand.Value (Word (hex 8 n) ∷ [])
word_is_last n fits =
    value_is_last n (Word (hex 8 n) ∷ [])
    (number_first any_names (hex 8 n) n [] refl (hex_number 8 n (omega arith) (omega arith) fits))

pub target_is_last : (a : ℕ) (z : ℤ) → IsLast operand.Value (Word (hex 8 (target a z)) ∷ [])
target_is_last a z = word_is_last (target a z) (modulo_below 32 (pos a +ℤ z))

signed_alone : (z : ℤ) → FitsSignedBits 12 z →
    value_at any_names (signed_lexemes z) ≡ Ok (modulo 32 z, [])
unfolding value_at
signed_alone (pos n) inside =
    let small : n < 2 ^ 32 = omega (arith, ints) in
    let e : n ≡ n % 2 ^ 32 = omega arith in
    number_first any_names (decimal n) n [] (decimal_no_name n) (decimal_number n small)
    ∙ ap (λ m. Ok (m, [])) e
signed_alone (negsuc n) inside =
    let small : n < 2 ^ 31 = omega (arith, ints) in
    let test : nat_le (suc n) (2 ^ 31) ≡ true = grind (arith, nat_tests) in
    rw (decimal_number (suc n) (omega arith), test)
    (ap (λ m. Ok (m, [])) (minus_number n small))

pub immediate_is_last : (n : ℕ) → n < 2 ^ 12 →
    IsLast operand.Value (signed_lexemes (signed_value 12 n))
immediate_is_last n inside =
    value_is_last (modulo 32 (signed_value 12 n)) (signed_lexemes (signed_value 12 n))
    (signed_alone (signed_value 12 n) (signed_value_fits 12 n (omega arith) inside))

pub address_is_last : (n r : ℕ) → n < 2 ^ 12 → r < 32 →
    IsLast operand.Address
    (signed_lexemes (signed_value 12 n) ++ Mark 40 ∷ Word (name_of r) ∷ Mark 41 ∷ [])
unfolding behind more_operands_at
address_is_last n r inside below =
    rw (immediate_first any_names n (Word (name_of r) ∷ Mark 41 ∷ []) inside, register_read r below)
    refl
