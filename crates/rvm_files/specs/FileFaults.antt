-- Why a file cannot be opened, read or written.
use Rattle.std.specs.Prelude.{ℕ, List, codes}
use Rattle.std.specs.declared.io.ErrorKind.{ErrorKind}
use Rattle.std.specs.declared.io.ErrorKind.TheVariants as kind
use Rattle.rvm_refusal.specs.declared.refusal.Refusal.{Refusal}
use Rattle.rvm_refusal.specs.declared.refusal.Refusal.TheVariants as refusal
use Rattle.rvm_files.specs.declared.file_fault.FileFault.{FileFault}
use Rattle.rvm_files.specs.declared.file_fault.FileFault.TheVariants as fault

-- the fault that an error of a kind stands for
abbrev pub file_fault : ErrorKind → FileFault
file_fault kind.NotFound = fault.Missing
file_fault kind.NotADirectory = fault.NotADirectory
file_fault kind.IsADirectory = fault.IsADirectory
file_fault kind.PermissionDenied = fault.NotPermitted
file_fault kind.ReadOnlyFilesystem = fault.ReadOnly
file_fault kind.InvalidFilename = fault.BadName
file_fault kind.InvalidInput = fault.BadName
file_fault kind.StorageFull = fault.Full
file_fault kind.QuotaExceeded = fault.Full
file_fault kind.OutOfMemory = fault.OutOfMemory
file_fault _ = fault.Other

-- what a report says of a file that cannot be opened, read or written
abbrev pub file_words : FileFault → List ℕ
file_words fault.Missing = codes "no such file"
file_words fault.NoDirectory = codes "the directory for it does not exist"
file_words fault.NotADirectory = codes "a part of its path is no directory"
file_words fault.IsADirectory = codes "this is a directory"
file_words fault.NotPermitted = codes "permission denied"
file_words fault.ReadOnly = codes "the file system is read-only"
file_words fault.BadName = codes "the system takes no such name"
file_words fault.Full = codes "the disk is full"
file_words fault.OutOfMemory = codes "there is no memory to read it"
file_words fault.Other = codes "the system cannot read or write it"

-- and the refusal of its command
abbrev pub file_refusal : FileFault → Refusal
file_refusal fault.OutOfMemory = refusal.OutOfMemory
file_refusal _ = refusal.LinkFault
