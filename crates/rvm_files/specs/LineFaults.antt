-- What is wrong with a line of a text, and what a report shows of it.
use Rattle.std.specs.Prelude.{◌≡◌, ℕ, ◌-◌, ◌&&◌, nat_le, if◌then◌else◌, List, [], codes, get_or, map, take}
use Rattle.std.specs.Str.Lines.{lines}
use Rattle.rvm_asm.specs.LineRefusals.{refusal_of_fault}
use Rattle.rvm_asm.specs.declared.faults.Fault.TheVariants as asm
use Rattle.rvm_refusal.specs.declared.refusal.Refusal.{Refusal}
use Rattle.rvm_refusal.specs.declared.refusal.Refusal.TheVariants as refusal
use Rattle.rvm_files.specs.declared.line_fault.LineDefect.{LineDefect}
use Rattle.rvm_files.specs.declared.line_fault.LineFault.{LineFault}
use Rattle.rvm_files.specs.declared.line_fault.LineFault.TheVariants.{Assembly, NotText, Script}

-- what a report says of a line
abbrev pub line_words : LineFault → List ℕ
line_words (Assembly asm.BadToken) = codes "this is no line of the language (docs/ASSEMBLY.md)"
line_words (Assembly asm.UnknownName) = codes "a name has no value here (docs/ASSEMBLY.md)"
line_words (Assembly asm.OutOfReach) = codes "a value is out of range, or a place not aligned (docs/ASSEMBLY.md)"
line_words (Assembly asm.Defined) = codes "a name is given twice"
line_words (Assembly asm.Overlap) = codes "a byte is placed twice"
line_words NotText = codes "this is not UTF-8"
line_words Script = codes "this is no line of a script (docs/SCRIPTS.md)"

-- and the refusal of its text
abbrev pub line_refusal : LineFault → Refusal
line_refusal (Assembly f) = refusal_of_fault f
line_refusal NotText = refusal.BadToken
line_refusal Script = refusal.BadToken

-- a byte, or a dot if it is no printable ASCII character
abbrev pub printable : (byte : ℕ) → ℕ
printable byte = if nat_le 32 byte && nat_le byte 126 then byte else 46

-- what a report shows of a line
abbrev pub shown : (line : List ℕ) → List ℕ
shown line = map printable (take 80 line)

-- the line of a text with this number, counted from 1
abbrev pub line_of : (text : List ℕ) → (number : ℕ) → List ℕ
line_of text number = get_or (lines text) (number - 1) []

-- what is told of a line is of the line of this text with this number
pub record IsLineOf (text : List ℕ) (number : ℕ) (fault : LineFault) (told : LineDefect) : Type 0 where
  pub number_is : told.number ≡ number
  pub text_is : told.text.items ≡ shown (line_of text number)
  pub fault_is : told.fault ≡ fault
