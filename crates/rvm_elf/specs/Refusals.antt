-- What a file or an image was refused for, in the list of all refusals.
use Rattle.rvm_refusal.specs.declared.refusal.Refusal.{Refusal}
use Rattle.rvm_refusal.specs.declared.refusal.Refusal.TheVariants as refusal
use Rattle.rvm_elf.specs.declared.error.ReadError.{ReadError}
use Rattle.rvm_elf.specs.declared.error.ReadError.TheVariants as file
use Rattle.rvm_elf.specs.declared.error.WriteError.{WriteError}
use Rattle.rvm_elf.specs.declared.error.WriteError.TheVariants as image

-- the refusal of a file without an image
abbrev pub refusal_of_file : ReadError → Refusal
refusal_of_file file.OutOfMemory = refusal.OutOfMemory
refusal_of_file file.BadMagic = refusal.BadMagic
refusal_of_file file.NotRiscV32 = refusal.NotRiscV32
refusal_of_file file.Truncated = refusal.Truncated
refusal_of_file file.TooMany = refusal.TooMany

-- the refusal of an image without a file
abbrev pub refusal_of_image : WriteError → Refusal
refusal_of_image image.OutOfMemory = refusal.OutOfMemory
refusal_of_image image.TooMany = refusal.TooMany
refusal_of_image image.OutOfReach = refusal.OutOfReach
