-- What is wrong with an ELF file, and what a report says of it.
use Rattle.std.specs.Prelude.{◌≡◌, ◌≢◌, ℕ, ◌+◌, ◌*◌, ◌<◌, true, false, ◌||◌, ◌==◌, nat_lt, if◌then◌else◌, List, [], ◌++◌, Option, Some, None, Result, Ok, Err, codes, length, slice_index}
use Rattle.std.specs.Fmt.{decimal}
use Rattle.rvm_elf.specs.File.{checked, e_machine, e_phentsize, e_phnum, e_phoff, e_type, header_at, header_checked, headers_checked, is_elf, is_riscv32, lacks_headers}
use Rattle.rvm_elf.specs.declared.error.ReadError.{ReadError}
use Rattle.rvm_elf.specs.declared.error.ReadError.TheVariants.{BadMagic, NotRiscV32, Truncated}
use Rattle.rvm_elf.specs.declared.error.ReadError.TheVariants as error
use Rattle.rvm_files.specs.declared.headers.ElfFault.{ElfFault}
use Rattle.rvm_files.specs.declared.headers.ElfFault.TheVariants.{NoMagic, ShortHeader, Class, ByteOrder, Version, Machine, Object, Shared, Kind, HeaderSize, TooMany, ShortTable, MoreBytes, ShortSegment}

-- the error of a file that has a fault
abbrev pub elf_error : ElfFault → ReadError
elf_error NoMagic = BadMagic
elf_error (ShortHeader n) = Truncated
elf_error (Class n) = NotRiscV32
elf_error (ByteOrder n) = NotRiscV32
elf_error (Version n) = NotRiscV32
elf_error (Machine n) = NotRiscV32
elf_error Object = NotRiscV32
elf_error Shared = NotRiscV32
elf_error (Kind n) = NotRiscV32
elf_error (HeaderSize n) = NotRiscV32
elf_error (TooMany n) = error.TooMany
elf_error ShortTable = Truncated
elf_error (MoreBytes i) = NotRiscV32
elf_error (ShortSegment i) = Truncated

-- the first program header with a fault is the one with this index, and it has this fault
pub record IsFirstHeader (file : List ℕ) (first i : ℕ) (e : ReadError) : Type 0 where
  pub before : headers_checked i first file ≡ Ok tt
  pub here : header_checked (header_at (first + 32 * i) file) file ≡ Err e

-- a field of the file's header is this number, and should be another
abbrev pub IsWrong : (field n wanted : ℕ) → Type 0
IsWrong field n wanted = (n ≡ field) × (n ≢ wanted)

-- a file has a fault: the field that it names has the value that it names, or the header that it names is the first one
-- with a fault
abbrev pub HasFault : List ℕ → ElfFault → Type 0
HasFault file NoMagic = is_elf file ≡ false
HasFault file (ShortHeader n) = (n ≡ length file) × (n < 52)
HasFault file (Class n) = IsWrong (slice_index file 4) n 1
HasFault file (ByteOrder n) = IsWrong (slice_index file 5) n 1
HasFault file (Version n) = IsWrong (slice_index file 6) n 1
HasFault file (Machine n) = IsWrong (e_machine file) n 243
HasFault file Object = e_type file ≡ 1
HasFault file Shared = e_type file ≡ 3
HasFault file (Kind n) = IsWrong (e_type file) n 2
HasFault file (HeaderSize n) = IsWrong (e_phentsize file) n 32 × (0 < e_phnum file)
HasFault file (TooMany n) = (n ≡ e_phnum file) × (16 < n)
HasFault file ShortTable = lacks_headers file ≡ true
HasFault file (MoreBytes i) = IsFirstHeader file (e_phoff file) i NotRiscV32
HasFault file (ShortSegment i) = IsFirstHeader file (e_phoff file) i Truncated

-- what is told of a file: a fault that it has, for which it is refused; or nothing, if it is refused for none
abbrev pub IsElfFault : List ℕ → Option ElfFault → Type 0
IsElfFault file None = checked file ≡ Ok tt
IsElfFault file (Some fault) = HasFault file fault × (checked file ≡ Err (elf_error fault))

-- the fault of a file of this kind, which is no program
abbrev pub IsKindFault : (kind : ℕ) → ElfFault → Type 0
IsKindFault kind Object = kind ≡ 1
IsKindFault kind Shared = kind ≡ 3
IsKindFault kind (Kind n) = n ≡ kind
IsKindFault kind other = ⊥

-- what is told of the fields that say what kind of a program a file is for
abbrev pub IsIdentityFault : List ℕ → Option ElfFault → Type 0
IsIdentityFault file None = is_riscv32 file ≡ true
IsIdentityFault file (Some fault) = HasFault file fault × (is_riscv32 file ≡ false) × (elf_error fault ≡ NotRiscV32)

-- what is told of the size of program headers
abbrev pub IsHeaderSizeFault : List ℕ → Option ElfFault → Type 0
IsHeaderSizeFault file None = (e_phnum file == 0 || e_phentsize file == 32) ≡ true
IsHeaderSizeFault file (Some fault) =
    HasFault file fault × ((e_phnum file == 0 || e_phentsize file == 32) ≡ false) × (elf_error fault ≡ NotRiscV32)

-- the first fault of a file's program headers
abbrev pub table_checked : List ℕ → Result (Unit {0}) ReadError
table_checked file =
    if nat_lt 16 (e_phnum file) then Err error.TooMany
    else if lacks_headers file then Err Truncated
    else headers_checked (e_phnum file) (e_phoff file) file

-- what is told of the program headers of a file
abbrev pub IsTableFault : List ℕ → Option ElfFault → Type 0
IsTableFault file None = table_checked file ≡ Ok tt
IsTableFault file (Some fault) = HasFault file fault × (table_checked file ≡ Err (elf_error fault))

-- a fault is that of the program header with this index
abbrev pub IsAt : ElfFault → (i : ℕ) → Type 0
IsAt (MoreBytes n) i = n ≡ i
IsAt (ShortSegment n) i = n ≡ i
IsAt other i = ⊥

-- what is told of the program header at a place, which has this index
abbrev pub IsHeaderFault : List ℕ → (at i : ℕ) → Option ElfFault → Type 0
IsHeaderFault file at i None = header_checked (header_at at file) file ≡ Ok tt
IsHeaderFault file at i (Some fault) =
    IsAt fault i × (header_checked (header_at at file) file ≡ Err (elf_error fault))

-- what is told of this many program headers from a place on
abbrev pub AreHeaderFaults : List ℕ → (first count : ℕ) → Option ElfFault → Type 0
AreHeaderFaults file first count None = headers_checked count first file ≡ Ok tt
AreHeaderFaults file first count (Some fault) =
    (headers_checked count first file ≡ Err (elf_error fault))
    × ((i : ℕ) × IsAt fault i × IsFirstHeader file first i (elf_error fault))

-- the words of a report before the number that it names, or all of them if it names none
abbrev pub elf_before : ElfFault → List ℕ
elf_before NoMagic = codes "this is no ELF file: assemble or link it, or give --raw for plain bytes"
elf_before (ShortHeader n) = codes "this has "
elf_before (Class n) = codes "this is not for 32-bit machines (class "
elf_before (ByteOrder n) = codes "this is not little-endian (byte order "
elf_before (Version n) = codes "this has version "
elf_before (Machine n) = codes "this is for machine "
elf_before Object = codes "this is an object file: link it (docs/BOARD.md)"
elf_before Shared = codes "this is a library, or a program for any address: link it without -shared and -pie (docs/BOARD.md)"
elf_before (Kind n) = codes "this has type "
elf_before (HeaderSize n) = codes "this has program headers of "
elf_before (TooMany n) = codes "this has "
elf_before ShortTable = codes "this ends before its program headers do: it was cut off"
elf_before (MoreBytes n) = codes "program header "
elf_before (ShortSegment n) = codes "this ends before the bytes of program header "

-- the number that a report names, if it names one
abbrev pub elf_number : ElfFault → Option ℕ
elf_number NoMagic = None
elf_number (ShortHeader n) = Some n
elf_number (Class n) = Some n
elf_number (ByteOrder n) = Some n
elf_number (Version n) = Some n
elf_number (Machine n) = Some n
elf_number Object = None
elf_number Shared = None
elf_number (Kind n) = Some n
elf_number (HeaderSize n) = Some n
elf_number (TooMany n) = Some n
elf_number ShortTable = None
elf_number (MoreBytes n) = Some n
elf_number (ShortSegment n) = Some n

-- the words of a report after the number that it names
abbrev pub elf_after : ElfFault → List ℕ
elf_after NoMagic = []
elf_after (ShortHeader n) = codes " bytes, and an ELF header has 52: it was cut off"
elf_after (Class n) = codes "): build it for 32-bit RISC-V"
elf_after (ByteOrder n) = codes "): build it for 32-bit RISC-V"
elf_after (Version n) = codes " of the format, and not 1"
elf_after (Machine n) = codes ", and not for 243, RISC-V"
elf_after Object = []
elf_after Shared = []
elf_after (Kind n) = codes ", and a program has 2: link it (docs/BOARD.md)"
elf_after (HeaderSize n) = codes " bytes, and not of 32"
elf_after (TooMany n) = codes " program headers, and at most 16 are read"
elf_after ShortTable = []
elf_after (MoreBytes n) = codes " (from 0) is larger in the file than in memory"
elf_after (ShortSegment n) = codes " (from 0): it was cut off"

-- words around a number, if there is one
abbrev pub around : (number : Option ℕ) → (before after : List ℕ) → List ℕ
around None before after = before
around (Some n) before after = before ++ decimal n ++ after

-- what a report says of a file with a fault
abbrev pub elf_text : ElfFault → List ℕ
elf_text f = around (elf_number f) (elf_before f) (elf_after f)
