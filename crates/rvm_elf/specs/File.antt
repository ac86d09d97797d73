-- What the bytes of an ELF file stand for (System V ABI, "Object Files"): where the program begins, and its pieces.
use Rattle.std.specs.Prelude.{◌≡◌, ℕ, zero, suc, ◌+◌, ◌-◌, ◌*◌, Bool, false, ◌&&◌, ◌||◌, not, ◌==◌, nat_lt, if◌then◌else◌, List, [], ◌∷◌, ◌++◌, Option, Some, None, Result, Ok, Err, IsOk, length, drop, slice_index, slice_range}
use Rattle.std.specs.Option.{option_to_list}
use Rattle.byteorder.specs.Endian.{little_number}
use Rattle.rvm_asm.specs.Images.{Piece, byte_at}
use Rattle.rvm_elf.specs.declared.error.ReadError.{ReadError}
use Rattle.rvm_elf.specs.declared.error.ReadError.TheVariants.{OutOfMemory, BadMagic, NotRiscV32, Truncated, TooMany}
use Rattle.rvm_elf.specs.declared.layout.ProgramHeader.{ProgramHeader}

-- the little-endian number of n bytes at a place
abbrev pub field : (n at : ℕ) → List ℕ → ℕ
field n at file = little_number n (drop at file)

-- fields of the ELF header

-- the type of the object file (ELF, `e_type`)
abbrev pub e_type : List ℕ → ℕ
e_type file = field 2 16 file

-- the architecture that the file is for (ELF, `e_machine`)
abbrev pub e_machine : List ℕ → ℕ
e_machine file = field 2 18 file

-- the address at which the program begins (ELF, `e_entry`)
abbrev pub e_entry : List ℕ → ℕ
e_entry file = field 4 24 file

-- the place in the file at which the program headers begin (ELF, `e_phoff`)
abbrev pub e_phoff : List ℕ → ℕ
e_phoff file = field 4 28 file

-- how many bytes a program header has (ELF, `e_phentsize`)
abbrev pub e_phentsize : List ℕ → ℕ
e_phentsize file = field 2 42 file

-- how many program headers there are (ELF, `e_phnum`)
abbrev pub e_phnum : List ℕ → ℕ
e_phnum file = field 2 44 file

-- the program header at a place
abbrev pub header_at : (at : ℕ) → List ℕ → ProgramHeader
header_at at file =
    record {
      p_type = field 4 at file;
      p_offset = field 4 (at + 4) file;
      p_paddr = field 4 (at + 12) file;
      p_filesz = field 4 (at + 16) file;
      p_memsz = field 4 (at + 20) file;
    }

-- the file begins with the four magic bytes
abbrev pub is_elf : List ℕ → Bool
is_elf (a ∷ b ∷ c ∷ d ∷ file) = a == 0x7F && b == 0x45 && c == 0x4C && d == 0x46
is_elf file = false

-- 32-bit, little-endian, version 1, an executable of RISC-V; program headers, if there are any, of 32 bytes
abbrev pub is_riscv32 : List ℕ → Bool
is_riscv32 file =
    slice_index file 4 == 1 && slice_index file 5 == 1 && slice_index file 6 == 1 && e_type file == 2
    && e_machine file == 243 && (e_phnum file == 0 || e_phentsize file == 32)

-- there are program headers, and they go past the end
abbrev pub lacks_headers : List ℕ → Bool
lacks_headers file = nat_lt 0 (e_phnum file) && nat_lt (length file) (e_phoff file + 32 * e_phnum file)

-- the header names a loaded part of the program that has bytes or zeros
abbrev pub is_loaded : ProgramHeader → Bool
is_loaded h = h.p_type == 1 && nat_lt 0 h.p_memsz

-- the bytes of the file that the header names go past the end
abbrev pub lacks_bytes : ProgramHeader → List ℕ → Bool
lacks_bytes h file = nat_lt 0 h.p_filesz && nat_lt (length file) (h.p_offset + h.p_filesz)

-- the fault of a header, if its part is loaded and it has one
abbrev pub header_checked : ProgramHeader → List ℕ → Result (Unit {0}) ReadError
header_checked h file =
    if not (is_loaded h) then Ok tt
    else if nat_lt h.p_memsz h.p_filesz then Err NotRiscV32
    else if lacks_bytes h file then Err Truncated
    else Ok tt

-- the piece of a header, if its part is loaded
abbrev pub piece_of_header : ProgramHeader → List ℕ → Option Piece
piece_of_header h file =
    if is_loaded h
    then Some (record {
      address = h.p_paddr;
      bytes = slice_range file h.p_offset (h.p_offset + h.p_filesz);
      zeros = h.p_memsz - h.p_filesz;
    })
    else None

infixl 10 ◌>>=◌
-- a step, and the next one if it has no fault
abbrev pub ◌>>=◌ : {A B : Type 0} → Result A ReadError → (A → Result B ReadError) → Result B ReadError
(Ok x) >>= f = f x
(Err e) >>= f = Err e

-- the first fault of this many headers from a place on
unfoldable pub headers_checked : (count at : ℕ) → List ℕ → Result (Unit {0}) ReadError
headers_checked zero at file = Ok tt
headers_checked (suc n) at file = header_checked (header_at at file) file >>= λ _. headers_checked n (at + 32) file

-- the pieces of this many headers from a place on
unfoldable pub pieces_from : (count at : ℕ) → List ℕ → List Piece
pieces_from zero at file = []
pieces_from (suc n) at file = option_to_list (piece_of_header (header_at at file) file) ++ pieces_from n (at + 32) file

-- the first fault of a file
unfoldable pub checked : List ℕ → Result (Unit {0}) ReadError
checked file =
    if not (is_elf file) then Err BadMagic
    else if nat_lt (length file) 52 then Err Truncated
    else if not (is_riscv32 file) then Err NotRiscV32
    else if nat_lt 16 (e_phnum file) then Err TooMany
    else if lacks_headers file then Err Truncated
    else headers_checked (e_phnum file) (e_phoff file) file

-- where the program begins and its pieces, or the first fault
unfoldable pub meaning : List ℕ → Result (ℕ × List Piece) ReadError
meaning file = checked file >>= λ _. Ok (e_entry file, pieces_from (e_phnum file) (e_phoff file) file)

-- an error is the file's fault; if memory ran out, the file has none
abbrev pub Refuses : ReadError → Result (ℕ × List Piece) ReadError → Type 0
Refuses OutOfMemory r = IsOk r
Refuses BadMagic r = r ≡ Err BadMagic
Refuses NotRiscV32 r = r ≡ Err NotRiscV32
Refuses Truncated r = r ≡ Err Truncated
Refuses TooMany r = r ≡ Err TooMany

-- a file stands for an image: the program begins at its entry, and each address has its byte, or none
abbrev pub StandsFor : List ℕ → (entry : ℕ) → List Piece → Type 0
StandsFor file entry image =
    (pieces : List Piece) × (meaning file ≡ Ok (entry, pieces))
    × ((a : ℕ) → byte_at pieces a ≡ byte_at image a)
