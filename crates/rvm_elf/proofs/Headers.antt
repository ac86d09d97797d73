-- One program header more.
use Rattle.std.proofs.Common.{◌≡◌, ℕ, suc, ◌+◌, ◌-◌, ◌*◌, ◌<◌, ◌≤◌, List, ◌++◌, append-nil, Result, Ok, Err, refl, sym, ap, ◌∙◌, append_assoc, arith}
use Rattle.std.specs.Option.{option_to_list}
use Rattle.rvm_asm.specs.Images.{Piece}
use Rattle.rvm_elf.specs.declared.error.ReadError.{ReadError}
use Rattle.rvm_elf.specs.File.{◌>>=◌, header_at, header_checked, headers_checked, piece_of_header, pieces_from}

-- the header at index i and those after it
headers_more : (count i first : ℕ) (file : List ℕ) → i < count → headers_checked (count - i) (first + 32 * i) file ≡ (header_checked (header_at (first + 32 * i) file) file >>= λ _. headers_checked (count - (i + 1)) (first + 32 * (i + 1)) file)
unfolding headers_checked
headers_more count i first file more =
    let one : count - i ≡ suc (count - (i + 1)) = omega arith in
    let next : first + 32 * i + 32 ≡ first + 32 * (i + 1) = omega arith in
    rw one (ap (λ at. header_checked (header_at (first + 32 * i) file) file >>= λ _. headers_checked (count - (i + 1)) at file) next)

pub header_passed : (count i first : ℕ) (file : List ℕ) → i < count → header_checked (header_at (first + 32 * i) file) file ≡ Ok tt
    → headers_checked (count - (i + 1)) (first + 32 * (i + 1)) file ≡ headers_checked (count - i) (first + 32 * i) file
header_passed count i first file more ok =
    sym (headers_more count i first file more ∙ ap (λ r. r >>= λ _. headers_checked (count - (i + 1)) (first + 32 * (i + 1)) file) ok)

pub header_failed : (count i first : ℕ) (file : List ℕ) (e : ReadError) → i < count → header_checked (header_at (first + 32 * i) file) file ≡ Err e
    → headers_checked (count - i) (first + 32 * i) file ≡ Err e
header_failed count i first file e more err =
    headers_more count i first file more ∙ ap (λ r. r >>= λ _. headers_checked (count - (i + 1)) (first + 32 * (i + 1)) file) err

-- both have no fault
record Both (r s : Result (Unit {0}) ReadError) : Type 0 where
  first : r ≡ Ok tt
  rest : s ≡ Ok tt

both : (r s : Result (Unit {0}) ReadError) → (r >>= λ _. s) ≡ Ok tt → Both r s
both (Ok u) s e = record { first = refl; rest = e }
both (Err x) s e = cc

pub header_is_checked : (count i first : ℕ) (file : List ℕ) → i < count → headers_checked (count - i) (first + 32 * i) file ≡ Ok tt → header_checked (header_at (first + 32 * i) file) file ≡ Ok tt
header_is_checked count i first file more ok = (both _ _ (sym (headers_more count i first file more) ∙ ok)).first

pub rest_is_checked : (count i first : ℕ) (file : List ℕ) → i < count → headers_checked (count - i) (first + 32 * i) file ≡ Ok tt → headers_checked (count - (i + 1)) (first + 32 * (i + 1)) file ≡ Ok tt
rest_is_checked count i first file more ok = (both _ _ (sym (headers_more count i first file more) ∙ ok)).rest

-- the pieces so far, one more, and those after it
pieces_more : (count i first : ℕ) (file : List ℕ) → i < count → pieces_from (count - i) (first + 32 * i) file ≡ option_to_list (piece_of_header (header_at (first + 32 * i) file) file) ++ pieces_from (count - (i + 1)) (first + 32 * (i + 1)) file
unfolding pieces_from
pieces_more count i first file more =
    let one : count - i ≡ suc (count - (i + 1)) = omega arith in
    let next : first + 32 * i + 32 ≡ first + 32 * (i + 1) = omega arith in
    rw one (ap (λ at. option_to_list (piece_of_header (header_at (first + 32 * i) file) file) ++ pieces_from (count - (i + 1)) at file) next)

pub pieces_step : (count i first : ℕ) (file : List ℕ) (old new : List Piece) → i < count → new ≡ old ++ option_to_list (piece_of_header (header_at (first + 32 * i) file) file)
    → new ++ pieces_from (count - (i + 1)) (first + 32 * (i + 1)) file ≡ old ++ pieces_from (count - i) (first + 32 * i) file
pieces_step count i first file old new more made =
    let one : List Piece = option_to_list (piece_of_header (header_at (first + 32 * i) file) file) in
    let rest : List Piece = pieces_from (count - (i + 1)) (first + 32 * (i + 1)) file in
    ap (λ xs. xs ++ rest) made ∙ append_assoc old one rest ∙ ap (λ xs. old ++ xs) (sym (pieces_more count i first file more))

-- at the last header
pub none_left : (count i first : ℕ) (file : List ℕ) → count ≤ i → headers_checked (count - i) (first + 32 * i) file ≡ Ok tt
unfolding headers_checked
none_left count i first file done =
    let none : count - i ≡ 0 = omega arith in
    rw none refl

pub no_pieces_left : (count i first : ℕ) (file : List ℕ) (old : List Piece) → count ≤ i → old ≡ old ++ pieces_from (count - i) (first + 32 * i) file
unfolding pieces_from
no_pieces_left count i first file old done =
    let none : count - i ≡ 0 = omega arith in
    rw none (sym (append-nil old))
