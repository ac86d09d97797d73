-- RAM with pieces in it, byte by byte.
use Rattle.std.proofs.Common.{◌≡◌, ℕ, ◌+◌, ◌-◌, ◌<◌, ◌≤◌, true, ◌⊎◌, inl, inr, List, [], ◌∷◌, ◌++◌, Option, Some, None, length, get_or, replicate, refl, sym, ap, ◌∙◌, arith, length-append}
use Rattle.std.specs.Option.{unwrap_or}
use Rattle.std.proofs.lemmas.Bool.{le-leb, lt-ltb, lt-leb, le-ltb, cases_lt}
use Rattle.std.proofs.lemmas.Bool.Decides.{nat_tests}
use Rattle.std.proofs.lemmas.List.{length-replicate, get_or-replicate, get_or_append_left, get_or-append_right, get_or_past, nil_from_length, ext_get_or}
use Rattle.std.proofs.lemmas.List.FromFn.{get_or-map-range_with_len, length-map-range_with_len}
use Rattle.rvm_mem.specs.Bytes.{replaced}
use Rattle.rvm_mem.proofs.Lengths.{length-replaced}
use Rattle.rvm_mem.proofs.Others.{replaced_nothing}
use Rattle.rvm_hart.specs.Bus.{ram_base}
use Rattle.rvm_asm.specs.Images.{Piece, size, in_piece, or_else, byte_at}
use Rattle.rvm_elf.specs.Load.{piece_fits, pieces_fit, ram_of}
use Rattle.rvm_elf.specs.Placing.{placed, placed_all}
use Rattle.rvm_elf.proofs.Ranges.{before_replaced, within_replaced, behind_replaced}
use Rattle.rvm_elf.proofs.Placing.{and_first, and_second}

-- a piece lies in RAM of this many bytes
pub record Inside (p : Piece) (count : ℕ) : Type 0 where
  pub low : ram_base ≤ p.address
  pub high : p.address + size p ≤ ram_base + count

-- a piece that fits has no byte or lies in RAM
pub inside : (p : Piece) (count : ℕ) → piece_fits p count ≡ true → (size p ≡ 0) ⊎ Inside p count
inside p count fits =
    elim (cases_lt 0 (size p)) [
      | inl some ↦ inr (record { low = grind (arith, nat_tests); high = grind (arith, nat_tests) })
      | inr none ↦ inl (omega arith)
    ]

pub some_inside : (p : Piece) (count : ℕ) → piece_fits p count ≡ true → 0 < size p → Inside p count
some_inside p count fits some =
    elim (inside p count fits) [
      | inl none ↦ absurd (omega arith)
      | inr is ↦ is
    ]

-- how many bytes a piece has, and each of them
length-contents : (p : Piece) → length (p.bytes ++ replicate p.zeros 0) ≡ size p
length-contents p = length-append p.bytes (replicate p.zeros 0) ∙ ap (λ n. length p.bytes + n) (length-replicate p.zeros 0)

get_or-contents : (p : Piece) (k : ℕ) → k < size p → get_or (p.bytes ++ replicate p.zeros 0) k 0 ≡ get_or p.bytes k 0
get_or-contents p k below =
    elim (cases_lt k (length p.bytes)) [
      | inl less ↦ get_or_append_left p.bytes (replicate p.zeros 0) 0 k less
      | inr more ↦
          get_or-append_right p.bytes (replicate p.zeros 0) (length p.bytes) k 0 refl more
          ∙ get_or-replicate p.zeros (k - length p.bytes) 0 0 (omega arith)
          ∙ sym (get_or_past p.bytes k 0 more)
    ]

pub placed_nothing : (p : Piece) (ram : List ℕ) → size p ≡ 0 → placed p ram ≡ ram
placed_nothing p ram none =
    ap (λ bytes. replaced (p.address - ram_base) bytes ram) (nil_from_length (p.bytes ++ replicate p.zeros 0) (length-contents p ∙ none))
    ∙ replaced_nothing (p.address - ram_base) ram

pub length-placed : (p : Piece) (ram : List ℕ) → piece_fits p (length ram) ≡ true → length (placed p ram) ≡ length ram
length-placed p ram fits =
    elim (inside p (length ram) fits) [
      | inl none ↦ ap (λ xs. length xs) (placed_nothing p ram none)
      | inr is ↦ length-replaced (p.address - ram_base) (p.bytes ++ replicate p.zeros 0) ram (omega (arith, is.low, is.high, length-contents p))
    ]

-- where a piece has a byte
byte_inside : (p : Piece) (a : ℕ) → p.address ≤ a → a < p.address + size p → in_piece p a ≡ Some (get_or p.bytes (a - p.address) 0)
byte_inside p a low high = rw (le-leb p.address a low, lt-ltb a (p.address + size p) high) refl

no_byte_below : (p : Piece) (a : ℕ) → a < p.address → in_piece p a ≡ None
no_byte_below p a low = rw (lt-leb p.address a low) refl

no_byte_behind : (p : Piece) (a : ℕ) → p.address + size p ≤ a → in_piece p a ≡ None
no_byte_behind p a high = rw (le-leb p.address a (omega arith), le-ltb a (p.address + size p) high) refl

-- a byte of RAM after a piece was placed
get_or-placed : (p : Piece) (ram : List ℕ) (k : ℕ) → piece_fits p (length ram) ≡ true → get_or (placed p ram) k 0 ≡ unwrap_or (in_piece p (ram_base + k)) (get_or ram k 0)
get_or-placed p ram k fits =
    let at : ℕ = p.address - ram_base in
    let new : List ℕ = p.bytes ++ replicate p.zeros 0 in
    elim (inside p (length ram) fits) [
      | inl none ↦
          elim (cases_lt (ram_base + k) p.address) [
            | inl less ↦ ap (λ xs. get_or xs k 0) (placed_nothing p ram none) ∙ ap (λ o. unwrap_or o (get_or ram k 0)) (sym (no_byte_below p (ram_base + k) less))
            | inr more ↦ ap (λ xs. get_or xs k 0) (placed_nothing p ram none) ∙ ap (λ o. unwrap_or o (get_or ram k 0)) (sym (no_byte_behind p (ram_base + k) (omega arith)))
          ]
      | inr is ↦
          elim (cases_lt (ram_base + k) p.address) [
            | inl less ↦
                before_replaced at k new ram (omega (arith, is.high)) (omega arith)
                ∙ ap (λ o. unwrap_or o (get_or ram k 0)) (sym (no_byte_below p (ram_base + k) less))
            | inr more ↦
                elim (cases_lt (ram_base + k) (p.address + size p)) [
                  | inl within ↦
                      within_replaced at k new ram (omega (arith, is.high)) (omega (arith, is.low)) (omega (arith, is.low, length-contents p))
                      ∙ get_or-contents p (k - at) (omega (arith, is.low))
                      ∙ ap (λ n. get_or p.bytes n 0) (omega (arith, is.low))
                      ∙ ap (λ o. unwrap_or o (get_or ram k 0)) (sym (byte_inside p (ram_base + k) more within))
                  | inr behind ↦
                      behind_replaced at k new ram (omega (arith, is.high)) (omega (arith, is.low, length-contents p))
                      ∙ ap (λ o. unwrap_or o (get_or ram k 0)) (sym (no_byte_behind p (ram_base + k) behind))
                ]
          ]
    ]

unwrap_or-or_else : (x y : Option ℕ) (d : ℕ) → unwrap_or (or_else x y) d ≡ unwrap_or x (unwrap_or y d)
unwrap_or-or_else None y d = refl
unwrap_or-or_else (Some v) y d = refl

-- the same after all pieces
pub length-placed_all : (ps : List Piece) (ram : List ℕ) → pieces_fit ps (length ram) ≡ true → length (placed_all ps ram) ≡ length ram
unfolding placed_all pieces_fit
length-placed_all [] ram fits = refl
length-placed_all (p ∷ ps) ram fits =
    let one : length (placed p ram) ≡ length ram = length-placed p ram (and_first _ _ fits) in
    length-placed_all ps (placed p ram) (ap (pieces_fit ps) one ∙ and_second _ _ fits) ∙ one

get_or-placed_all : (ps : List Piece) (ram : List ℕ) (k : ℕ) → pieces_fit ps (length ram) ≡ true → get_or (placed_all ps ram) k 0 ≡ unwrap_or (byte_at ps (ram_base + k)) (get_or ram k 0)
unfolding placed_all pieces_fit
get_or-placed_all [] ram k fits = refl
get_or-placed_all (p ∷ ps) ram k fits =
    let one : length (placed p ram) ≡ length ram = length-placed p ram (and_first _ _ fits) in
    get_or-placed_all ps (placed p ram) k (ap (pieces_fit ps) one ∙ and_second _ _ fits)
    ∙ ap (unwrap_or (byte_at ps (ram_base + k))) (get_or-placed p ram k (and_first _ _ fits))
    ∙ sym (unwrap_or-or_else (byte_at ps (ram_base + k)) (in_piece p (ram_base + k)) (get_or ram k 0))

-- zeros with all pieces in them
pub all_placed : (ps : List Piece) (count : ℕ) → pieces_fit ps count ≡ true → placed_all ps (replicate count 0) ≡ ram_of count ps
all_placed ps count fits =
    let size : length (replicate count 0) ≡ count = length-replicate count 0 in
    let fit : pieces_fit ps (length (replicate count 0)) ≡ true = ap (pieces_fit ps) size ∙ fits in
    let byte = λ (k : ℕ). unwrap_or (byte_at ps (ram_base + k)) 0 in
    let same : length (placed_all ps (replicate count 0)) ≡ count = length-placed_all ps (replicate count 0) fit ∙ size in
    ext_get_or 0 (placed_all ps (replicate count 0)) (ram_of count ps) (same ∙ sym (length-map-range_with_len byte 0 count))
    (λ k below.
    let less : k < count = omega arith in
    get_or-placed_all ps (replicate count 0) k fit
    ∙ ap (unwrap_or (byte_at ps (ram_base + k))) (get_or-replicate count k 0 0 less)
    ∙ sym (get_or-map-range_with_len byte 0 count k k 0 less (omega arith)))
