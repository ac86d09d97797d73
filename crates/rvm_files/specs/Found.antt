-- What is told of a refusal that is explained is true of the files.
use Rattle.std.specs.Prelude.{◌≡◌, ◌⊎◌, ◌<◌, ⊤, ℕ, List, ◌++◌, Option, Some, Ok, IfSome, codes, length, take}
use Rattle.std.specs.Io.KnownBytes.{Appends}
use Rattle.std.specs.Str.{IsValidUpTo}
use Rattle.rvm_asm.specs.Images.{Piece}
use Rattle.rvm_asm.specs.Refusals.{IsError}
use Rattle.rvm_asm.specs.declared.error.AsmError.TheVariants.{TooLarge, TooMany}
use Rattle.rvm_elf.specs.File.{meaning}
use Rattle.rvm_files.specs.Defects.{found_text}
use Rattle.rvm_files.specs.LineFaults.{IsLineOf}
use Rattle.rvm_files.specs.ElfFaults.{HasFault}
use Rattle.rvm_files.specs.Outsides.{IsOutside}
use Rattle.rvm_files.specs.SavedFaults.{BeginsSaved}
use Rattle.rvm_files.specs.declared.defect.Defect.{Defect}
use Rattle.rvm_files.specs.declared.defect.Defect.TheVariants as defect
use Rattle.rvm_files.specs.declared.file_fault.FileFault.{FileFault}
use Rattle.rvm_files.specs.declared.image_parts.Outside.{Outside}
use Rattle.rvm_files.specs.declared.line_fault.LineDefect.{LineDefect}
use Rattle.rvm_files.specs.declared.line_fault.LineFault.{LineFault}
use Rattle.rvm_files.specs.declared.found.Found.{Found}
use Rattle.rvm_files.specs.declared.found.Found.TheVariants as found
use Rattle.rvm_files.specs.declared.unfound.Unfound.{Unfound}
use Rattle.rvm_files.specs.Files.{Named}
use Rattle.rvm_files.specs.Reports.{TellsRefusal, unfound_words}

-- a file has an image, of which this part does not lie in a RAM of some size
pub record HasOutside (file : List ℕ) (part : Outside) : Type 0 where
  pub entry : ℕ
  pub pieces : List Piece
  pub count : ℕ
  pub image : meaning file ≡ Ok (entry, pieces)
  pub outside : IsOutside entry pieces count (Some part)

-- what is told of a file is true of its bytes; of a file that cannot be read or written nothing is known
abbrev pub IsTrueOf : (file : List ℕ) → Defect → Type 0
IsTrueOf file (defect.File f) = ⊤
IsTrueOf file (defect.TooLong limit) = limit < length file
IsTrueOf file (defect.LongImage limit) = limit < length file
IsTrueOf file defect.SameBytes = ⊤
IsTrueOf file (defect.Elf f) = HasFault file f
IsTrueOf file (defect.Outside part) = HasOutside file part
IsTrueOf file (defect.Saved f) = BeginsSaved file
IsTrueOf file defect.LargeText = IsError file TooLarge
IsTrueOf file defect.ScatteredText = IsError file TooMany

-- a line that is told is a line of all bytes of this text, or of those before the first that is no UTF-8
pub record HasLine (text : List ℕ) (told : LineDefect) : Type 0 where
  pub count : ℕ
  pub number : ℕ
  pub fault : LineFault
  pub part : (count ≡ length text) ⊎ IsValidUpTo text count
  pub line : IsLineOf (take count text) number fault told

-- what was found is true of the file that is named, if its bytes are known
abbrev pub IsTrue : Named → Found → Type 0
IsTrue files (found.File file c) = IfSome (files file.now) (λ all. IsTrueOf all c)
IsTrue files (found.Line file l) = IfSome (files file.now) (λ all. HasLine all l)
IsTrue files found.Streams = ⊤

-- a file cannot be read or written
abbrev pub IsFileDefect : Defect → Type 0
IsFileDefect told = (f : FileFault) × (told ≡ defect.File f)

-- why a file is not read: it cannot be, or it has more bytes than this, for which this defect is told
abbrev pub IsUnreadDefect : (known : Option (List ℕ)) → (limit : ℕ) → (long told : Defect) → Type 0
IsUnreadDefect known limit long told =
    IsFileDefect told ⊎ ((told ≡ long) × IfSome known (λ all. limit < length all))

-- what is told of a file that has more bytes than this
abbrev pub IsLongDefect : (limit : ℕ) → Defect → Type 0
IsLongDefect limit told = (told ≡ defect.TooLong limit) ⊎ (told ≡ defect.LongImage limit)

-- a text tells of something that was found, and that is true of the files; or that nothing was found
abbrev pub IsToldText : Named → (text : List ℕ) → Type 0
IsToldText files text =
    ((f : Found) × IsTrue files f × (text ≡ found_text f)) ⊎ ((u : Unfound) × (text ≡ unfound_words u ++ codes "\n"))

-- what a writer got after a report explains it: a text that is true of the files if the report is of a refusal, and else
-- nothing
abbrev pub IsExplanation : Named → (report : List ℕ) → (before after : Option (List ℕ)) → Type 0
IsExplanation files report before after =
    (after ≡ before) ⊎ (TellsRefusal report × ((text : List ℕ) × IsToldText files text × Appends before after text))
