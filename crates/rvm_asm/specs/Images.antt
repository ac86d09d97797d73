-- The bytes of an image: which byte stands at an address.
use Rattle.std.specs.Prelude.{ℕ, ◌+◌, ◌-◌, ◌<◌, List, [], ◌∷◌, Option, Some, None, length, get_or, map, nat_le, nat_lt, ◌&&◌, if◌then◌else◌}
use Rattle.rvm_asm.specs.declared.image.Segment.{Segment}

-- bytes from an address on, and how many zeros stand after them
pub record Piece : Type 0 where
  pub address : ℕ
  pub bytes : List ℕ
  pub zeros : ℕ

-- bytes from an address on, without zeros
abbrev pub piece : (address : ℕ) → List ℕ → Piece
piece address bytes = record { address = address; bytes = bytes; zeros = 0 }

-- how many bytes a piece has, with its zeros
abbrev pub size : Piece → ℕ
size p = length p.bytes + p.zeros

-- the byte of a piece at an address, if it has one there
abbrev pub in_piece : Piece → ℕ → Option ℕ
in_piece p a =
    if nat_le p.address a && nat_lt a (p.address + size p)
    then Some (get_or p.bytes (a - p.address) 0) else None

-- the first of two, if it is there
abbrev pub or_else : Option ℕ → Option ℕ → Option ℕ
or_else None y = y
or_else (Some x) y = Some x

-- the byte at an address, in the last piece that has one there
abbrev pub byte_at : List Piece → ℕ → Option ℕ
byte_at [] a = None
byte_at (p ∷ ps) a = or_else (byte_at ps a) (in_piece p a)

-- each piece has bytes, and ends before the next one begins
pub record IsRising (ps : List Piece) : Type 0 where
  pub some : (i : ℕ) → i < length ps → 0 < size (get_or ps i (piece 0 []))
  pub apart : (i : ℕ) → i + 1 < length ps
      → (get_or ps i (piece 0 [])).address + size (get_or ps i (piece 0 [])) < (get_or ps (i + 1) (piece 0 [])).address

-- what a segment stands for
abbrev pub piece_of : Segment → Piece
piece_of s = record { address = s.address; bytes = s.bytes.items; zeros = s.zeros }

-- what the segments of an image stand for
abbrev pub pieces_of : List Segment → List Piece
pieces_of ss = map piece_of ss
