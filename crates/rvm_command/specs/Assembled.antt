-- What `rvmove asm` writes.
use Rattle.std.specs.Prelude.{◌≡◌, ℕ, List}
use Rattle.rvm_asm.specs.Images.{Piece}
use Rattle.rvm_asm.specs.Assembly.{IsAssembly}
use Rattle.rvm_elf.specs.Spelling.{file_of}

-- the file is the ELF file of an assembly of the text
abbrev pub IsFileOf : (text file : List ℕ) → Type 0
IsFileOf text file =
    (entry : ℕ) × (pieces : List Piece) × IsAssembly text entry pieces × (file ≡ file_of entry pieces)
