-- At which line a fault stands.
use Rattle.std.specs.Prelude.{◌≡◌, ℕ, zero, suc, ◌+◌, ◌^◌, ◌<◌, ◌≤◌, List, Option, Some, None, Result, Ok, Err, length}
use Rattle.std.specs.Prelude.{slice_index, slice_index_or, IsSome, [], ◌⊎◌, Bool, true, false, IsTrue, IsFalse}
use Rattle.std.specs.Str.Lines.{lines}
use Rattle.rvm_text.specs.Lexemes.{Lexeme, lexemes}
use Rattle.rvm_asm.specs.declared.faults.Fault.{Fault}
use Rattle.rvm_asm.specs.declared.faults.Fault.TheVariants.{BadToken, Defined, Overlap}
use Rattle.rvm_asm.specs.declared.faults.LineError.{LineError}
use Rattle.rvm_asm.specs.declared.faults.LineError.TheVariants as line_error
use Rattle.rvm_asm.specs.Contents.{bytes_at}
use Rattle.rvm_asm.specs.Reading.{◌>>=◌}
use Rattle.rvm_asm.specs.Statements.{Definition, label_of, next_place, equ_at}
use Rattle.rvm_asm.specs.Values.{Names}
use Rattle.rvm_refusal.specs.declared.refusal.Refusal.{Refusal}
use Rattle.rvm_refusal.specs.declared.refusal.Refusal.TheVariants as refusal
use Rattle.rvm_asm.specs.LineRefusals.{refusal_of_fault}
use Rattle.rvm_asm.specs.declared.error.AsmError.{AsmError}
use Rattle.rvm_asm.specs.declared.error.AsmError.TheVariants.{OutOfMemory, Line, TooLarge, TooMany}
use Rattle.rvm_asm.specs.Assembly.{statement_of, line_at, IsLaidTo, IsLaid, IsImageTo, IsImage, IsAssembly}
use Rattle.rvm_asm.specs.Assembly.{AreRead, Takes}
use Rattle.rvm_asm.specs.Images.{Piece, IsRising}
use Rattle.rvm_asm.specs.Pieces.{IsTaken, HasSameBytes}

-- a definition's name has a value already
abbrev pub IsTwice : Names → Option Definition → Type 0
IsTwice names None = ⊥
IsTwice names (Some d) = IsSome (names d.0)

-- what a statement defines, if the place after it is in reach
abbrev pub defined_at : Names → (place : ℕ) → List Lexeme → Result (Option Definition) Fault
defined_at names place ts = next_place names place ts >>= λ after. equ_at names ts

-- a line at a place has a fault under the names of earlier lines: in its statement; or else its label, or the name that
-- its statement defines, has a value already
abbrev pub IsUnplaced : Names → (place : ℕ) → List Lexeme → Fault → Type 0
IsUnplaced names place line fault =
    (defined_at names place (statement_of place line) ≡ Err fault)
    ⊎ ((fault ≡ Defined) × ((d : Option Definition)
    × (defined_at names place (statement_of place line) ≡ Ok d)
    × (IsTwice names (label_of place line).0
    ⊎ ((mid : Names) × Takes names mid (label_of place line).0 × IsTwice mid d))))

-- a line has a fault under names and places that fit all lines before it
abbrev pub HasPlacingFault : List (List Lexeme) → ℕ → Fault → Type 0
HasPlacingFault all i fault =
    (names : Names) × (places : List ℕ) × IsLaidTo all i names places
    × IsUnplaced names (slice_index places i) (line_at all i) fault

-- a line's bytes can't join an image: it has a fault, or a byte stands there
abbrev pub IsUnput : List Piece → Names → (place : ℕ) → List Lexeme → Fault → Type 0
IsUnput image names place line fault =
    (bytes_at names place (statement_of place line) ≡ Err fault)
    ⊎ ((fault ≡ Overlap) × ((bs : List ℕ)
    × (bytes_at names place (statement_of place line) ≡ Ok bs) × IsTaken image place (length bs)))

-- a line's bytes can't join those of all lines before it, under names and places that fit all lines
abbrev pub HasBytesFault : List (List Lexeme) → ℕ → Fault → Type 0
HasBytesFault all i fault =
    (names : Names) × (places : List ℕ) × (image : List Piece) × IsLaid all names places
    × IsImageTo all i names places image
    × IsUnput image names (slice_index places i) (line_at all i) fault

-- a fault of the lines stands at the line with an index
abbrev pub HasFault : List (List Lexeme) → ℕ → Fault → Type 0
HasFault all i fault = (i < length all) × (HasPlacingFault all i fault ⊎ HasBytesFault all i fault)

-- pieces have the bytes of others that rise by address without touching; a test says whether those
-- are more than 16
abbrev pub AreSeparate : List Piece → (many : Bool) → Type 0
AreSeparate pieces many =
    (image : List Piece) × HasSameBytes pieces image × IsRising image
    × (IsTrue many → 16 < length image) × (IsFalse many → length image ≤ 16)

-- the error of pieces that have too many bytes
abbrev pub IsSizeError : List Piece → AsmError → Type 0
IsSizeError pieces OutOfMemory = ⊥
IsSizeError pieces (Line number fault) = ⊥
IsSizeError pieces TooLarge = AreSeparate pieces false
IsSizeError pieces TooMany = AreSeparate pieces true

-- how many bytes a statement has; one with a fault has none
abbrev pub length_of : Result (List ℕ) Fault → ℕ
length_of (Ok bs) = length bs
length_of (Err fault) = 0

-- how many bytes a line has at a place, under names
abbrev pub count_at : Names → (place : ℕ) → List Lexeme → ℕ
count_at names place line = length_of (bytes_at names place (statement_of place line))

-- how many bytes the first lines have
unfoldable pub count_to : List (List Lexeme) → Names → List ℕ → (count : ℕ) → ℕ
count_to all names places zero = 0
count_to all names places (suc i) =
    count_to all names places i + count_at names (slice_index places i) (line_at all i)

-- pieces are an image of all lines, under names and places that fit them, so that no line has a
-- fault, and rise by address without touching; and all lines have more than 2 ^ 24 bytes
abbrev pub IsOversized : List (List Lexeme) → List Piece → Type 0
IsOversized all image =
    (names : Names) × (places : List ℕ) × IsLaid all names places × IsImage all names places image
    × IsRising image × (2 ^ 24 < count_to all names places (length all))

-- lines without a fault have more than 2 ^ 24 bytes, in at most 16 pieces that do not touch
abbrev pub AreTooLarge : List (List Lexeme) → Type 0
AreTooLarge all = (image : List Piece) × IsOversized all image × (length image ≤ 16)

-- lines without a fault have more than 2 ^ 24 bytes, in more than 16 pieces that do not touch
abbrev pub AreTooMany : List (List Lexeme) → Type 0
AreTooMany all = (image : List Piece) × IsOversized all image × (16 < length image)

-- all lines, under names and places that fit them, have at most 2 ^ 24 bytes
abbrev pub AreFew : List (List Lexeme) → Type 0
AreFew all =
    (names : Names) × (places : List ℕ) × IsLaid all names places
    × (count_to all names places (length all) ≤ 2 ^ 24)

-- the lines of a text, which all have lexemes, have at most 2 ^ 24 bytes
abbrev pub IsSmall : List ℕ → Type 0
IsSmall text = (all : List (List Lexeme)) × AreRead (lines text) all × AreFew all

-- a line is the first that has no lexemes
abbrev pub IsUnread : List (List ℕ) → ℕ → Fault → Type 0
IsUnread texts i fault =
    (i < length texts) × (fault ≡ BadToken) × (lexemes (slice_index_or texts i []) ≡ None)
    × ((j : ℕ) → j < i → IsSome (lexemes (slice_index_or texts j [])))

-- the error of a line as one of the text
abbrev pub error_at : ℕ → LineError → AsmError
error_at number line_error.OutOfMemory = OutOfMemory
error_at number (line_error.Faulty fault) = Line number fault

-- an error of the lines, counted from 1
abbrev pub IsErrorOf : List (List Lexeme) → AsmError → Type 0
IsErrorOf all OutOfMemory = Unit {0}
IsErrorOf all (Line number fault) = (i : ℕ) × (number ≡ i + 1) × HasFault all i fault
IsErrorOf all TooLarge = AreTooLarge all
IsErrorOf all TooMany = AreTooMany all

-- a line that can't be read
abbrev pub IsReadError : List (List ℕ) → AsmError → Type 0
IsReadError texts OutOfMemory = Unit {0}
IsReadError texts (Line number fault) = (i : ℕ) × (number ≡ i + 1) × IsUnread texts i fault
IsReadError texts TooLarge = ⊥
IsReadError texts TooMany = ⊥

-- an error of a text: memory ran out, the fault stands at the line with that number, or no line has
-- one and the lines have too many bytes
abbrev pub IsError : List ℕ → AsmError → Type 0
IsError text e =
    IsReadError (lines text) e
    ⊎ ((all : List (List Lexeme)) × AreRead (lines text) all × IsErrorOf all e)

-- no fault stands at a line of a text
abbrev pub HasNoFault : List ℕ → Type 0
HasNoFault text = (number : ℕ) (fault : Fault) → IsError text (Line number fault) → ⊥

-- a text with an image has no fault
abbrev pub ImagesHaveNoFault : List ℕ → Type 0
ImagesHaveNoFault text =
    (entry : ℕ) (image : List Piece) → IsAssembly text entry image → HasNoFault text

-- a text that is refused for its size has no fault
abbrev pub SizesHaveNoFault : List ℕ → Type 0
SizesHaveNoFault text = (IsError text TooLarge ⊎ IsError text TooMany) → HasNoFault text

-- an error in the list of all refusals; the number of its line is reported beside it
abbrev pub refusal_of : AsmError → Refusal
refusal_of OutOfMemory = refusal.OutOfMemory
refusal_of (Line n fault) = refusal_of_fault fault
refusal_of TooLarge = refusal.OutOfReach
refusal_of TooMany = refusal.TooMany
