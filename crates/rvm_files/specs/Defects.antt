-- What is wrong with a file, for which refusal, and what a report says of it.
use Rattle.std.specs.Prelude.{ℕ, List, ◌++◌, codes}
use Rattle.std.specs.Fmt.{decimal}
use Rattle.rvm_elf.specs.Refusals.{refusal_of_file}
use Rattle.rvm_refusal.specs.declared.refusal.Refusal.{Refusal}
use Rattle.rvm_refusal.specs.declared.refusal.Refusal.TheVariants as refusal
use Rattle.rvm_files.specs.ElfFaults.{elf_error, elf_text}
use Rattle.rvm_files.specs.FileFaults.{file_refusal, file_words}
use Rattle.rvm_files.specs.LineFaults.{line_words}
use Rattle.rvm_files.specs.Outsides.{outside_text}
use Rattle.rvm_files.specs.SavedFaults.{saved_refusal, saved_words}
use Rattle.rvm_files.specs.declared.defect.Defect.{Defect}
use Rattle.rvm_files.specs.declared.defect.Defect.TheVariants as defect
use Rattle.rvm_files.specs.declared.line_fault.LineDefect.{LineDefect}
use Rattle.rvm_files.specs.declared.found.Found.{Found}
use Rattle.rvm_files.specs.declared.found.Found.TheVariants as found

-- what a report says of a file
abbrev pub defect_text : Defect → List ℕ
defect_text (defect.File f) = file_words f
defect_text (defect.TooLong limit) = codes "this has more than " ++ decimal limit ++ codes " bytes"
defect_text (defect.LongImage limit) =
    codes "this has more than " ++ decimal limit ++ codes " bytes, and RAM has no more: give more --pages, of which there are at most 4096"
defect_text defect.SameBytes = codes "this has the bytes of the text: it may be the text under another name"
defect_text (defect.Elf f) = elf_text f
defect_text (defect.Outside part) = outside_text part
defect_text (defect.Saved f) = saved_words f
defect_text defect.LargeText = codes "its lines have more than 16777216 bytes: lay out less .space"
defect_text defect.ScatteredText = codes "its lines make more than 16 pieces that do not touch: use fewer .org"

-- and the refusal of its command
abbrev pub refusal_of_defect : Defect → Refusal
refusal_of_defect (defect.File f) = file_refusal f
refusal_of_defect (defect.TooLong limit) = refusal.TooLong
refusal_of_defect (defect.LongImage limit) = refusal.OutsideRam
refusal_of_defect defect.SameBytes = refusal.LinkFault
refusal_of_defect (defect.Elf f) = refusal_of_file (elf_error f)
refusal_of_defect (defect.Outside part) = refusal.OutsideRam
refusal_of_defect (defect.Saved f) = saved_refusal f
refusal_of_defect defect.LargeText = refusal.OutOfReach
refusal_of_defect defect.ScatteredText = refusal.TooMany

-- a line of a file, up to its last byte
abbrev pub line_head : (file : List ℕ) → LineDefect → List ℕ
line_head file l = file ++ codes ": line " ++ decimal l.number ++ codes ": `" ++ l.text.items

-- what a report says of a line of a file
abbrev pub line_text : (file : List ℕ) → LineDefect → List ℕ
line_text file l = line_head file l ++ (codes "`: " ++ line_words l.fault ++ codes "\n")

-- the line of a report that says what was found
abbrev pub found_text : Found → List ℕ
found_text (found.File file c) = file.now ++ codes ": " ++ defect_text c ++ codes "\n"
found_text (found.Line file l) = line_text file.now l
found_text found.Streams = codes "--stream: more than two hosts speak version 3 alone\n"
