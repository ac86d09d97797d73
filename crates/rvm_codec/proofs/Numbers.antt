-- A number that is read is the one that was written, and more bytes after it change nothing.
use Rattle.std.proofs.Common.{◌≡◌, ℕ, zero, suc, ◌+◌, ◌*◌, ◌/◌, ◌%◌, ◌^◌, ◌<◌, ◌≤◌, true, false, ltb, List, [], ◌∷◌, ◌++◌, length, drop, Some, None, rules, refl, sym, ap, ◌∙◌, arith, inl, inr}
use Rattle.std.proofs.Math.Nat.{div-div-eq-div-mul, pow-succ'}
use Rattle.std.specs.Int.{byte_at, bytes_low_first}
use Rattle.std.proofs.lemmas.Bool.{cases_lt, ltb-false, le-ltb}
use Rattle.std.proofs.lemmas.List.{drop_at, drop-append-le, length-append, length-drop}
use Rattle.byteorder.specs.Endian.{little_from, little_number, little_bytes}
use Rattle.byteorder.specs.Numbers.{little_from-cons, little_from-append, little_from-lt, length-bytes_low_first, little_number-reads_back}
use Rattle.rvm_codec.specs.Numbers.{number_at}
use Rattle.rvm_codec.specs.Exact.{IsBytes, Takes}
use Rattle.rvm_codec.proofs.Steps.{IsBytes-drop, let_through, none_is}

-- a byte of a number above its lowest is one of the number without it
byte_at-suc : (j n : ℕ) → byte_at (suc j) n ≡ byte_at j (n / 256)
byte_at-suc zero n = refl
byte_at-suc (suc j) n = ap (λ (x : ℕ). x % 256) (ap (λ (p : ℕ). n / p) (pow-succ' 256 (suc j)) ∙ sym (div-div-eq-div-mul n 256 (256 ^ suc j)))

bytes_low_first-suc : (j k n : ℕ) → bytes_low_first (suc j) k n ≡ bytes_low_first j k (n / 256)
bytes_low_first-suc j zero n = refl
bytes_low_first-suc j (suc k) n = rw (byte_at-suc j n, bytes_low_first-suc (suc j) k n) refl

lowest : (b y : ℕ) → b < 256 → (b + 256 * y) % 256 ≡ b
lowest b y lt = omega arith

others : (b y : ℕ) → b < 256 → (b + 256 * y) / 256 ≡ y
others b y lt = omega arith

-- the bytes of the number that bytes are
pub written_back : (size : ℕ) (bytes : List ℕ) → size ≤ length bytes → IsBytes bytes → bytes ≡ little_bytes size (little_number size bytes) ++ drop size bytes
written_back zero bytes long fits = refl
written_back (suc size) [] long fits = absurd (omega arith)
written_back (suc size) (b ∷ bytes) long fits =
    let y = little_from 0 size bytes in
    let whole : little_number (suc size) (b ∷ bytes) ≡ b + 256 * y = ap (λ (n : ℕ). b + 256 * n) (little_from-cons 0 size b bytes) in
    let rest_fits : IsBytes bytes = λ i. fits (suc i) in
    let behind : bytes ≡ little_bytes size y ++ drop size bytes = written_back size bytes (omega arith) rest_fits in
    let moved : bytes_low_first 1 size (b + 256 * y) ≡ little_bytes size y = bytes_low_first-suc 0 size (b + 256 * y) ∙ ap (little_bytes size) (others b y (fits 0)) in
    ap (λ (xs : List ℕ). b ∷ xs) behind ∙ rw (whole, lowest b y (fits 0), moved) refl

-- what a number that was read says
pub record IsRead (size : ℕ) (bytes : List ℕ) (n : ℕ) (rest : List ℕ) : Type 0 where
  pub long : size ≤ length bytes
  pub value : little_number size bytes ≡ n
  pub behind : drop size bytes ≡ rest

pub read_is : (size : ℕ) (bytes : List ℕ) (n : ℕ) (rest : List ℕ) → number_at size bytes ≡ Some (n, rest) → IsRead size bytes n rest
unfolding number_at
read_is size bytes n rest e =
    let g = let_through (ltb (length bytes) size) (little_number size bytes, drop size bytes) (n, rest) e in
    record {
      long = ltb-false _ _ g.0;
      value = ap (λ (p : ℕ × List ℕ). p.0) g.1;
      behind = ap (λ (p : ℕ × List ℕ). p.1) g.1;
    }

pub number_takes : (size : ℕ) (bytes : List ℕ) (n : ℕ) (rest : List ℕ) → IsBytes bytes → number_at size bytes ≡ Some (n, rest) → Takes bytes (little_bytes size n) rest × (n < 256 ^ size)
number_takes size bytes n rest fits e =
    let r = read_is size bytes n rest e in (
      record {
        parts = written_back size bytes r.long fits ∙ rw (r.value, r.behind) refl;
        rest_fits = rw (← r.behind) (IsBytes-drop size bytes fits);
      },
      rw (← r.value) (little_from-lt 0 size bytes fits),
    )

pub number_again : (size n : ℕ) (rest : List ℕ) → n < 256 ^ size → number_at size (little_bytes size n ++ rest) ≡ Some (n, rest)
unfolding number_at
number_again size n rest lt =
    let len = length-bytes_low_first 0 size n in
    let long : ltb (length (little_bytes size n ++ rest)) size ≡ false = le-ltb _ _ (omega (arith, len, length-append (little_bytes size n) rest)) in
    rw (long, little_number-reads_back size n rest lt, drop_at (little_bytes size n) rest size len) refl

-- how many bytes a number took
pub number_len : (size : ℕ) (bytes : List ℕ) (n : ℕ) (rest : List ℕ) → number_at size bytes ≡ Some (n, rest) → length bytes ≡ size + length rest
number_len size bytes n rest e =
    let r = read_is size bytes n rest e in
    rw (← r.behind) (omega (arith, r.long, length-drop size bytes))

-- more bytes after a number
pub number_more : (size : ℕ) (bytes more : List ℕ) (n : ℕ) (rest : List ℕ) → number_at size bytes ≡ Some (n, rest) → number_at size (bytes ++ more) ≡ Some (n, rest ++ more)
unfolding number_at
number_more size bytes more n rest e =
    let r = read_is size bytes n rest e in
    let long : ltb (length (bytes ++ more)) size ≡ false = le-ltb _ _ (omega (arith, r.long, length-append bytes more)) in
    rw (long, little_from-append size bytes more r.long, drop-append-le size bytes more r.long, r.value, r.behind) refl

-- too few bytes for a number
pub number_short : (size : ℕ) (bytes : List ℕ) → length bytes < size → number_at size bytes ≡ None
unfolding number_at
number_short size bytes lt = let short : ltb (length bytes) size ≡ true = search (rules, lt) in rw short refl

pub number_none : (size : ℕ) (bytes : List ℕ) → number_at size bytes ≡ None → length bytes < size
unfolding number_at
number_none size bytes e =
    elim (cases_lt (length bytes) size) [
      | inl lt ↦ lt
      | inr le ↦ absurd (none_is (rw (le-ltb _ _ le) at e))
    ]
