-- The ELF file of an image (System V ABI, "Object Files"): its header, a program header for each piece, and the bytes
-- of the pieces in order.
use Rattle.std.specs.Prelude.{◌≡◌, ℕ, ◌+◌, ◌*◌, ◌^◌, ◌<◌, ◌≤◌, Bool, true, ◌&&◌, nat_le, nat_lt, List, [], ◌∷◌, ◌++◌, length, filter}
use Rattle.std.specs.List.{flat_map}
use Rattle.byteorder.specs.Endian.{little_bytes}
use Rattle.rvm_asm.specs.Images.{Piece, size}

-- the bytes of all pieces in order
unfoldable pub all_bytes : List Piece → List ℕ
all_bytes [] = []
all_bytes (p ∷ ps) = p.bytes ++ all_bytes ps

-- the size of a piece fits its field
abbrev pub is_small : Piece → Bool
is_small p = nat_lt (size p) (2 ^ 32)

-- the size of each piece fits its field
unfoldable pub are_small : List Piece → Bool
are_small [] = true
are_small (p ∷ ps) = is_small p && are_small ps

-- at most 2 ^ 24 bytes in all, and each size fits its field
abbrev pub in_reach : List Piece → Bool
in_reach ps = nat_le (length (all_bytes ps)) (2 ^ 24) && are_small ps

-- e_ident: the magic bytes, 32-bit, little-endian, version 1
abbrev pub ident : List ℕ
ident = 0x7F ∷ 0x45 ∷ 0x4C ∷ 0x46 ∷ 1 ∷ 1 ∷ 1 ∷ 0 ∷ 0 ∷ 0 ∷ 0 ∷ 0 ∷ 0 ∷ 0 ∷ 0 ∷ 0 ∷ []

-- the ELF header: e_ident; e_type and e_machine; e_version, e_entry, e_phoff, e_shoff and e_flags; e_ehsize,
-- e_phentsize, e_phnum, e_shentsize, e_shnum and e_shstrndx
abbrev pub elf_header : (entry count : ℕ) → List ℕ
elf_header entry count =
    ident
    ++ (flat_map (little_bytes 2) (2 ∷ 243 ∷ [])
    ++ (flat_map (little_bytes 4) (1 ∷ entry ∷ 52 ∷ 0 ∷ 0 ∷ [])
    ++ flat_map (little_bytes 2) (52 ∷ 32 ∷ count ∷ 0 ∷ 0 ∷ 0 ∷ [])))

-- a program header: p_type, p_offset, p_vaddr, p_paddr, p_filesz, p_memsz, p_flags and p_align
abbrev pub program_header : (offset : ℕ) → Piece → List ℕ
program_header offset p =
    flat_map (little_bytes 4) (1 ∷ offset ∷ p.address ∷ p.address ∷ length p.bytes ∷ size p ∷ 7 ∷ 1 ∷ [])

-- a program header for each piece; the bytes of the first stand at the offset
unfoldable pub program_headers : (offset : ℕ) → List Piece → List ℕ
program_headers offset [] = []
program_headers offset (p ∷ ps) = program_header offset p ++ program_headers (offset + length p.bytes) ps

-- the ELF file of an image
unfoldable pub file_of : (entry : ℕ) → List Piece → List ℕ
file_of entry ps =
    elf_header entry (length ps) ++ (program_headers (52 + 32 * length ps) ps ++ all_bytes ps)

-- the address of each piece fits its field
unfoldable pub are_addressed : List Piece → Bool
are_addressed [] = true
are_addressed (p ∷ ps) = nat_lt p.address (2 ^ 32) && are_addressed ps

-- an image that has a file
pub record IsWritable (entry : ℕ) (ps : List Piece) : Type 0 where
  pub entry_fits : entry < 2 ^ 32
  pub few : length ps ≤ 16
  pub addressed : are_addressed ps ≡ true
  pub reach : in_reach ps ≡ true

-- the pieces that have a byte or a zero
abbrev pub with_size : List Piece → List Piece
with_size ps = filter (λ p. nat_lt 0 (size p)) ps
