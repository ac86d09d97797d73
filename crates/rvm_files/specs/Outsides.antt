-- Which part of an image does not lie in RAM, and what a report says of it.
use Rattle.std.specs.Prelude.{◌≡◌, ℕ, ◌+◌, ◌%◌, ◌-◌, ◌^◌, ◌<◌, ◌⊎◌, Bool, true, false, ◌&&◌, ◌==◌, nat_lt, if◌then◌else◌, List, [], ◌++◌, Option, Some, None, codes, get_or, length, take}
use Rattle.std.specs.Fmt.{decimal}
use Rattle.rvm_asm.specs.Images.{Piece, piece, size}
use Rattle.rvm_dis.specs.Pieces.{hex_digits}
use Rattle.rvm_elf.specs.Load.{is_within, piece_fits, pieces_fit}
use Rattle.rvm_hart.specs.Bus.{ram_base}
use Rattle.rvm_files.specs.declared.image_parts.Outside.{Outside}
use Rattle.rvm_files.specs.declared.image_parts.Outside.TheVariants.{Below, Above, Entry}

-- the address of the last byte of a RAM of this many bytes
abbrev pub last_byte : (count : ℕ) → ℕ
last_byte count = ((ram_base + count) % 2 ^ 32 + (2 ^ 32 - 1)) % 2 ^ 32

-- an entry is a multiple of four in a RAM of this many bytes
abbrev pub entry_fits : (entry count : ℕ) → Bool
entry_fits entry count = entry % 4 == 0 && is_within 1 entry count

-- what is told of an entry
abbrev pub entry_part : (entry count : ℕ) → Option Outside
entry_part entry count = if entry_fits entry count then None else Some (Entry entry (last_byte count))

-- what is told of a piece that does not lie in RAM, and has this number
abbrev pub segment_part : Piece → (number count : ℕ) → Outside
segment_part p number count =
    if nat_lt p.address ram_base then Below number p.address else Above number p.address (size p) (last_byte count)

-- the piece with this index does not fit, and those before it do
pub record IsFirstOutside (pieces : List Piece) (count i : ℕ) : Type 0 where
  pub there : i < length pieces
  pub outside : piece_fits (get_or pieces i (piece 0 [])) count ≡ false
  pub before : pieces_fit (take i pieces) count ≡ true

-- what is told of an image in a RAM of this many bytes: the first piece that does not fit; or else its entry, or nothing if
-- it can be loaded
abbrev pub IsOutside : (entry : ℕ) → List Piece → (count : ℕ) → Option Outside → Type 0
IsOutside entry pieces count told =
    ((i : ℕ) × IsFirstOutside pieces count i
    × (told ≡ Some (segment_part (get_or pieces i (piece 0 [])) (i + 1) count)))
    ⊎ ((pieces_fit pieces count ≡ true) × (told ≡ entry_part entry count))

-- `segment N at ADDRESS`
unfoldable pub place_text : (number address : ℕ) → List ℕ
place_text number address = codes "segment " ++ decimal number ++ codes " at " ++ hex_digits 8 address

-- `the program begins at ADDRESS, no multiple of four in RAM`
unfoldable pub begins_text : (entry : ℕ) → List ℕ
begins_text entry =
    codes "the program begins at " ++ hex_digits 8 entry ++ codes ", no multiple of four in RAM"

-- `RAM ends at ADDRESS, which --pages sets`
unfoldable pub ends_text : (last : ℕ) → List ℕ
ends_text last = codes "RAM ends at " ++ hex_digits 8 last ++ codes ", which --pages sets"

-- what a report says of a part of an image
abbrev pub outside_text : Outside → List ℕ
outside_text (Below number address) = place_text number address ++ codes ": RAM begins at 80000000 (docs/BOARD.md)"
outside_text (Above number address bytes last) =
    place_text number address ++ codes " has " ++ decimal bytes ++ codes " bytes: " ++ ends_text last
outside_text (Entry entry last) = begins_text entry ++ codes ": " ++ ends_text last
