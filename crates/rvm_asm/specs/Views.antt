-- What the code's values stand for.
use Rattle.std.specs.Prelude.{◌≡◌, ℕ, ◌+◌, ◌^◌, ◌≤◌, List, [], Option, map, Result, Ok, Err, ◌⊎◌, ◌<◌, Bool, true, nat_lt, slice_index, ◌∷◌}
use Rattle.std.specs.Prelude.{length, unwrap_or, None, Some}
use denote.Ref.{Bor}
use Rattle.std.specs.BTreeMap.{BTreeMap}
use Rattle.rvm_text.specs.Lexemes.{Lexeme, lexemes}
use Rattle.rvm_asm.specs.declared.faults.LineError.{LineError}
use Rattle.rvm_asm.specs.declared.faults.LineError.TheVariants as line_error
use Rattle.rvm_asm.specs.declared.faults.Fault.{Fault}
use Rattle.rvm_asm.specs.declared.faults.Fault.TheVariants.{BadToken, Defined, Overlap}
use Rattle.rvm_asm.specs.Contents.{bytes_at}
use Rattle.rvm_asm.specs.Statements.{Definition}
use Rattle.rvm_asm.specs.Values.{Names}
use Rattle.rvm_asm.specs.declared.image.Segment.{Segment}
use Rattle.rvm_asm.specs.Images.{Piece, piece}
use Rattle.rvm_asm.specs.declared.extents.Extent.{Extent}
use Rattle.rvm_asm.specs.Assembly.{Takes, Lays, IsImageTo, line_at, statement_of}
use Rattle.rvm_asm.specs.Pieces.{AreOrdered, Joins, IsFree, IsTaken}
use Rattle.rvm_asm.specs.Refusals.{IsUnplaced, IsTwice}

-- the bytes of lines of text
abbrev pub texts_of : List (Bor (List ℕ)) → List (List ℕ)
texts_of ls = map (λ l. l.now) ls

-- the lexemes of a line, if it has any
abbrev pub line_of : List ℕ → List Lexeme
line_of text = unwrap_or (lexemes text) []

-- the lexemes of lines
abbrev pub lines_of : List (List ℕ) → List (List Lexeme)
lines_of texts = map line_of texts

-- why a line has no tokens
abbrev pub IsUnreadable : List ℕ → LineError → Type 0
IsUnreadable text line_error.OutOfMemory = Unit {0}
IsUnreadable text (line_error.Faulty f) = (f ≡ BadToken) × (lexemes text ≡ None)

-- no zeros stand after a segment's bytes
abbrev pub HasNoZeros : Segment → Type 0
HasNoZeros s = s.zeros ≡ 0

-- the bytes of a line that has no fault
abbrev pub bytes_or_none : Result (List ℕ) Fault → List ℕ
bytes_or_none (Ok bs) = bs
bytes_or_none (Err fault) = []

-- the bytes of the line with an index, if it has no fault
unfoldable pub line_bytes : List (List Lexeme) → Names → List ℕ → (i : ℕ) → List ℕ
line_bytes lines names places i =
    bytes_or_none (bytes_at names (slice_index places i) (statement_of (slice_index places i) (line_at lines i)))

-- the extents of lines by the addresses of their first bytes
abbrev pub Extents : Type 0
Extents = BTreeMap ℕ Extent

-- what the extent of a line stands for
abbrev pub extent_piece : (bytes : ℕ → List ℕ) → ℕ × Extent → Piece
extent_piece bytes e = piece e.0 (bytes e.1.line)

-- what the extents of a map stand for
abbrev pub extent_pieces : (bytes : ℕ → List ℕ) → Extents → List Piece
extent_pieces bytes m = map (extent_piece bytes) m.entries

-- an extent is of one of the first lines and ends with its last byte
abbrev pub IsExtent : (bytes : ℕ → List ℕ) → (count : ℕ) → ℕ × Extent → Type 0
IsExtent bytes count e =
    (e.1.line < count) × (e.0 + length (bytes e.1.line) ≡ e.1.last + 1)

-- each of these is an extent of one of the first lines
unfoldable pub AreExtents : (bytes : ℕ → List ℕ) → (count : ℕ) → List (ℕ × Extent) → Type 0
AreExtents bytes count [] = Unit {0}
AreExtents bytes count (e ∷ es) = IsExtent bytes count e × AreExtents bytes count es

-- the extents of a map are of the first lines, and none begins before the one before it ends
pub record Holds (bytes : ℕ → List ℕ) (count : ℕ) (m : Extents) : Type 0 where
  pub each : AreExtents bytes count m.entries
  pub ordered : AreOrdered 0 0 (extent_pieces bytes m)

-- the bytes of the first lines have these extents
pub record ArePlaced (lines : List (List Lexeme)) (names : Names) (places : List ℕ) (count : ℕ)
    (m : Extents) : Type 0 where
  pub image : IsImageTo lines count names places (extent_pieces (line_bytes lines names places) m)
  pub held : Holds (line_bytes lines names places) count m

-- the places of a line's bytes were free and are its own now, or one was taken
abbrev pub IsClaim : (bytes : ℕ → List ℕ) → (line place : ℕ) → Extents → Extents
    → Result (Unit {0}) LineError → Type 0
IsClaim bytes line place old new (Ok done) =
    IsFree (extent_pieces bytes old) place (length (bytes line))
    × Joins (extent_pieces bytes old) (extent_pieces bytes new) (piece place (bytes line))
    × Holds bytes (line + 1) new
IsClaim bytes line place old new (Err line_error.OutOfMemory) = Unit {0}
IsClaim bytes line place old new (Err (line_error.Faulty f)) =
    (f ≡ Overlap) × IsTaken (extent_pieces bytes old) place (length (bytes line))

-- whether an extent does not touch the one before it, of which the last address is given
abbrev pub is_apart : (before : Option ℕ) → (address : ℕ) → Bool
is_apart None address = true
is_apart (Some last) address = nat_lt (last + 1) address

-- the room that this many bytes leave of 2 ^ 24, or none if they do not fit
abbrev pub IsRoom : Option ℕ → (count : ℕ) → Type 0
IsRoom None count = 2 ^ 24 < count
IsRoom (Some left) count = left + count ≡ 2 ^ 24

-- a line's definitions join the names and the place after it is given, or it has a fault
abbrev pub IsLaying : Names → Names → ℕ → List Lexeme → Result ℕ LineError → Type 0
IsLaying old new place line (Ok after) = Lays old new place after line
IsLaying old new place line (Err line_error.OutOfMemory) = Unit {0}
IsLaying old new place line (Err (line_error.Faulty f)) = IsUnplaced old place line f

-- a line's bytes end at 2 ^ 32 or before
abbrev pub Fits : Names → (place : ℕ) → List Lexeme → Type 0
Fits names place line =
    (bs : List ℕ) → bytes_at names place (statement_of place line) ≡ Ok bs
    → (bs ≡ []) ⊎ (place + length bs ≤ 2 ^ 32)

-- a line's bytes join an image at addresses where it had no byte
pub record Puts (old new : List Piece) (names : Names) (place : ℕ) (line : List Lexeme)
    : Type 0 where
  pub bytes : List ℕ
  pub of_line : bytes_at names place (statement_of place line) ≡ Ok bytes
  pub free : IsFree old place (length bytes)
  pub joined : Joins old new (piece place bytes)

-- a definition joins the names, or its name has a value
abbrev pub IsDefining : Names → Names → Option Definition → Result (Unit {0}) LineError → Type 0
IsDefining old new d (Ok done) = Takes old new d
IsDefining old new d (Err line_error.OutOfMemory) = Unit {0}
IsDefining old new d (Err (line_error.Faulty f)) = (f ≡ Defined) × IsTwice old d
