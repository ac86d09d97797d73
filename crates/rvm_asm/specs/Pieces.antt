-- What the assembler says of the pieces of an image.
use Rattle.std.specs.Prelude.{◌≡◌, ℕ, ◌+◌, ◌<◌, ◌≤◌, List, [], ◌∷◌, Some, None, length, slice_index}
use Rattle.std.specs.Prelude.{IsSome}
use Rattle.rvm_asm.specs.Images.{Piece, in_piece, or_else, byte_at}

-- this many bytes from a place on are these
abbrev pub HasAt : List Piece → (place : ℕ) → List ℕ → Type 0
HasAt image place bytes =
    (k : ℕ) → k < length bytes → byte_at image (place + k) ≡ Some (slice_index bytes k)

-- an address is one of those of bytes from a place on
abbrev pub IsWithin : (a place : ℕ) → List ℕ → Type 0
IsWithin a place bytes = (place ≤ a) × (a < place + length bytes)

-- no byte stands in this many places from one on
abbrev pub IsFree : List Piece → (place count : ℕ) → Type 0
IsFree image place count = (a : ℕ) → place ≤ a → a < place + count → byte_at image a ≡ None

-- a byte stands in one of them
abbrev pub IsTaken : List Piece → (place count : ℕ) → Type 0
IsTaken image place count = (a : ℕ) × (place ≤ a) × (a < place + count) × IsSome (byte_at image a)

-- an image with one piece more, whose byte counts at an address where both have one
abbrev pub Joins : List Piece → List Piece → Piece → Type 0
Joins old new p = (a : ℕ) → byte_at new a ≡ or_else (in_piece p a) (byte_at old a)

-- the pieces have the same bytes
abbrev pub HasSameBytes : List Piece → List Piece → Type 0
HasSameBytes xs ys = (a : ℕ) → byte_at xs a ≡ byte_at ys a

-- the pieces have bytes and no zeros after them; the first begins at `place` or after it, and each other one at least
-- `gap` bytes after the end of the one before it
unfoldable pub AreOrdered : (gap place : ℕ) → List Piece → Type 0
AreOrdered gap place [] = Unit {0}
AreOrdered gap place (p ∷ ps) =
    (place ≤ p.address) × (0 < length p.bytes) × (p.zeros ≡ 0)
    × AreOrdered gap (p.address + length p.bytes + gap) ps

-- where a piece after these may begin at the earliest
unfoldable pub end_of : (gap place : ℕ) → List Piece → ℕ
end_of gap place [] = place
end_of gap place (p ∷ ps) = end_of gap (p.address + length p.bytes + gap) ps
