-- When an image is the assembly of a text: each line is laid out under the names of the lines
-- before it, and its bytes under the names of all lines stand at its place, and no others.
use Rattle.std.specs.Prelude.{◌≡◌, ℕ, ◌+◌, ◌^◌, ◌<◌, List, [], Option, Some, None, Ok}
use Rattle.std.specs.Prelude.{length, map, slice_index, slice_index_or, IsSome, if◌then◌else◌}
use Rattle.std.specs.Prelude.{codes}
use Rattle.std.specs.Str.{bytes_eq}
use Rattle.std.specs.Str.Lines.{lines}
use Rattle.rvm_text.specs.Lexemes.{Lexeme, lexemes}
use Rattle.rvm_asm.specs.Contents.{bytes_at}
use Rattle.rvm_asm.specs.Statements.{Definition, label_of, next_place, equ_at}
use Rattle.rvm_asm.specs.Values.{Names}
use Rattle.rvm_asm.specs.Images.{Piece, byte_at}
use Rattle.rvm_asm.specs.Pieces.{HasAt, IsWithin, HasSameBytes}

-- the statement of a line after its label
abbrev pub statement_of : (place : ℕ) → List Lexeme → List Lexeme
statement_of place line = (label_of place line).1

-- names with what a line defines, if anything, whose name had no value
abbrev pub Takes : Names → Names → Option Definition → Type 0
Takes old new None = (n : List ℕ) → new n ≡ old n
Takes old new (Some d) =
    (old d.0 ≡ None) × ((n : List ℕ) → new n ≡ (if bytes_eq d.0 n then Some d.1 else old n))

-- a line at a place under the names of the lines before it leads to the place after it, and its
-- label and what its statement defines join the names
pub record Lays (old new : Names) (place after : ℕ) (line : List Lexeme) : Type 0 where
  pub next : next_place old place (statement_of place line) ≡ Ok after
  pub labelled : Names
  pub label : Takes old labelled (label_of place line).0
  pub definition : Option Definition
  pub read : equ_at old (statement_of place line) ≡ Ok definition
  pub defined : Takes labelled new definition

-- the line with an index
abbrev pub line_at : List (List Lexeme) → ℕ → List Lexeme
line_at lines i = slice_index_or lines i []

-- the first `count` lines stand at these places, and the place after them is the last of these: beginning at 2 ^ 31 and
-- without names, each line is laid out after the one before it, and all together leave these names
pub record IsLaidTo (lines : List (List Lexeme)) (count : ℕ) (names : Names) (places : List ℕ)
    : Type 0 where
  pub many : length places ≡ count + 1
  pub first : slice_index places 0 ≡ 2 ^ 31
  pub known : ℕ → Names
  pub none : (n : List ℕ) → known 0 n ≡ None
  pub each : (i : ℕ) → i < count
      → Lays (known i) (known (i + 1)) (slice_index places i) (slice_index places (i + 1))
      (line_at lines i)
  pub all : known count ≡ names

-- the same for all lines
abbrev pub IsLaid : List (List Lexeme) → Names → List ℕ → Type 0
IsLaid lines names places = IsLaidTo lines (length lines) names places

-- the bytes of the line with an index at its place
abbrev pub BytesOf : List (List Lexeme) → Names → List ℕ → ℕ → List ℕ → Type 0
BytesOf lines names places i bs =
    bytes_at names (slice_index places i) (statement_of (slice_index places i) (line_at lines i))
    ≡ Ok bs

-- the bytes of each of the first lines stand at its place, each byte is one of them, and no two
-- lines have a byte at one address
pub record IsImageTo (lines : List (List Lexeme)) (count : ℕ) (names : Names) (places : List ℕ)
    (image : List Piece) : Type 0 where
  pub bytes : (i : ℕ) → i < count
      → (bs : List ℕ) × BytesOf lines names places i bs × HasAt image (slice_index places i) bs
  pub others : (a : ℕ) → IsSome (byte_at image a) → (i : ℕ) × (i < count) × (bs : List ℕ)
      × BytesOf lines names places i bs × IsWithin a (slice_index places i) bs
  pub apart : (i j : ℕ) → i < j → j < count → (bs cs : List ℕ) → BytesOf lines names places i bs
      → BytesOf lines names places j cs → (a : ℕ) → IsWithin a (slice_index places i) bs
      → IsWithin a (slice_index places j) cs → ⊥

-- the same for all lines
abbrev pub IsImage : List (List Lexeme) → Names → List ℕ → List Piece → Type 0
IsImage lines names places image = IsImageTo lines (length lines) names places image

-- each text is read as the lexemes of the line with the same index
abbrev pub AreRead : List (List ℕ) → List (List Lexeme) → Type 0
AreRead texts lines = map (λ text. lexemes text) texts ≡ map (λ line. Some line) lines

-- the value of a name, or the address of RAM's first byte if it has none
abbrev pub value_or_start : Option ℕ → ℕ
value_or_start None = 2 ^ 31
value_or_start (Some v) = v

-- where a program begins: at `_start` if it is defined, else at RAM's first byte
abbrev pub entry_of : Names → ℕ
entry_of names = value_or_start (names (codes "_start"))

-- pieces and an entry are the assembly of lines
abbrev pub IsAssemblyOf : List (List Lexeme) → (entry : ℕ) → List Piece → Type 0
IsAssemblyOf lines entry image =
    (names : Names) × (places : List ℕ) × IsLaid lines names places
    × IsImage lines names places image × (entry ≡ entry_of names)

-- pieces and an entry are the assembly of a text
abbrev pub IsAssembly : List ℕ → (entry : ℕ) → List Piece → Type 0
IsAssembly text entry image =
    (all : List (List Lexeme)) × AreRead (lines text) all × IsAssemblyOf all entry image

-- a text has at most one assembly: one entry, and one byte or none at each address
abbrev pub HasOneAssembly : List ℕ → Type 0
HasOneAssembly text =
    (entry other : ℕ) (image pieces : List Piece) → IsAssembly text entry image
    → IsAssembly text other pieces → (entry ≡ other) × HasSameBytes image pieces
