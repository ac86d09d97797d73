-- The checks of a file, one after the other.
use Rattle.std.proofs.Common.{◌≡◌, ◌∙◌, ◌<◌, ◌≤◌, ℕ, List, length, true, false, Option, Some, None, Err, ap, arith, refl, sym}
use Rattle.std.proofs.lemmas.Bool.Decides.{nat_tests}
use Rattle.std.specs.Prelude.{nat_lt}
use Rattle.rvm_elf.specs.File.{checked, is_elf, is_riscv32}
use Rattle.rvm_elf.specs.declared.error.ReadError.TheVariants.{BadMagic, NotRiscV32, Truncated}
use Rattle.rvm_files.specs.ElfFaults.{IsElfFault, IsIdentityFault, IsTableFault, table_checked}
use Rattle.rvm_files.specs.declared.headers.ElfFault.{ElfFault}

-- a file without the magic bytes
pub no_magic : (file : List ℕ) → is_elf file ≡ false → checked file ≡ Err BadMagic
unfolding checked
no_magic file magic = rw magic refl

-- a file with fewer bytes than a header
pub short : (file : List ℕ) → is_elf file ≡ true → length file < 52 → checked file ≡ Err Truncated
unfolding checked
short file magic few =
    let test : nat_lt (length file) 52 ≡ true = grind (arith, nat_tests) in
    rw (magic, test) refl

-- a file that is no program for 32-bit RISC-V
pub wrong_kind : (file : List ℕ) → is_elf file ≡ true → 52 ≤ length file → is_riscv32 file ≡ false
    → checked file ≡ Err NotRiscV32
unfolding checked
wrong_kind file magic enough kind =
    let test : nat_lt (length file) 52 ≡ false = grind (arith, nat_tests) in
    rw (magic, test, kind) refl

-- a program for it has the fault of its program headers
pub right_kind : (file : List ℕ) → is_elf file ≡ true → 52 ≤ length file → is_riscv32 file ≡ true
    → checked file ≡ table_checked file
unfolding checked
right_kind file magic enough kind =
    let test : nat_lt (length file) 52 ≡ false = grind (arith, nat_tests) in
    rw (magic, test, kind) refl

-- what is told of the fields is told of the file
pub identity_told : (file : List ℕ) (fault : ElfFault) → is_elf file ≡ true → 52 ≤ length file
    → IsIdentityFault file (Some fault) → IsElfFault file (Some fault)
identity_told file fault magic enough (has, wrong, error) =
    (has, wrong_kind file magic enough wrong ∙ ap Err (sym error))

-- and so is what is told of the program headers
pub table_told : (file : List ℕ) (told : Option ElfFault) → is_elf file ≡ true → 52 ≤ length file
    → is_riscv32 file ≡ true → IsTableFault file told → IsElfFault file told
table_told file None magic enough kind none = right_kind file magic enough kind ∙ none
table_told file (Some fault) magic enough kind (has, error) = (has, right_kind file magic enough kind ∙ error)
