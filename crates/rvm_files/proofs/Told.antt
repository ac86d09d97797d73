-- What is told of files is true of them.
use Rattle.std.proofs.Common.{◌≡◌, ◌⊎◌, ◌<◌, ℕ, List, Option, None, Some, inl, inr, length, take, refl, subst, sym, arith}
use Rattle.std.proofs.lemmas.List.{take_all}
use Rattle.std.specs.Str.{IsValidUpTo}
use Rattle.std.specs.Prelude.{IfSome}
use Rattle.rvm_files.specs.declared.defect.Defect.{Defect}
use Rattle.rvm_files.specs.declared.defect.Defect.TheVariants.{File, SameBytes}
use Rattle.rvm_files.specs.declared.file_fault.FileFault.{FileFault}
use Rattle.rvm_files.specs.declared.line_fault.LineDefect.{LineDefect}
use Rattle.rvm_files.specs.declared.line_fault.LineFault.{LineFault}
use Rattle.rvm_files.specs.Files.{IsFile}
use Rattle.rvm_files.specs.LineFaults.{IsLineOf}
use Rattle.rvm_files.specs.SavedFaults.{BeginsSaved}
use Rattle.rvm_files.specs.Found.{HasLine, IsFileDefect, IsLongDefect, IsTrueOf, IsUnreadDefect}

-- a file that is too long is told as such
long_is_true : (all : List ℕ) (limit : ℕ) (long : Defect) → IsLongDefect limit long → limit < length all → IsTrueOf all long
long_is_true all limit long (inl is) more = subst (IsTrueOf all) (sym is) more
long_is_true all limit long (inr is) more = subst (IsTrueOf all) (sym is) more

-- what is told of a file that is not read is true of it
unread : (known : Option (List ℕ)) (limit : ℕ) (long c : Defect) → IsLongDefect limit long → IsUnreadDefect known limit long c
    → IfSome known (λ all. IsTrueOf all c)
unread None limit long c is_long told = tt
unread (Some all) limit long c is_long (inl told) = subst (IsTrueOf all) (sym told.1) tt
unread (Some all) limit long c is_long (inr told) = subst (IsTrueOf all) (sym told.0) (long_is_true all limit long is_long told.1)

pub unread_is_true : (known : Option (List ℕ)) (limit : ℕ) (long : Defect) (told : Option Defect) → IsLongDefect limit long
    → IfSome told (IsUnreadDefect known limit long) → IfSome told (λ c. IfSome known (λ all. IsTrueOf all c))
unread_is_true known limit long None is_long told = tt
unread_is_true known limit long (Some c) is_long told = unread known limit long c is_long told

-- what is told of all bytes of a file is true of the file
of_bytes : (known : Option (List ℕ)) (bytes : List ℕ) (c : Defect) → IsFile known bytes → IsTrueOf bytes c
    → IfSome known (λ all. IsTrueOf all c)
of_bytes None bytes c is told = tt
of_bytes (Some all) bytes c is told = subst (λ b. IsTrueOf b c) is told

pub bytes_are_true : (known : Option (List ℕ)) (bytes : List ℕ) (told : Option Defect) → IsFile known bytes
    → IfSome told (IsTrueOf bytes) → IfSome told (λ c. IfSome known (λ all. IsTrueOf all c))
bytes_are_true known bytes None is told = tt
bytes_are_true known bytes (Some c) is told = of_bytes known bytes c is told

-- and so is what is told of one of its lines
pub line_is_true : (known : Option (List ℕ)) (bytes : List ℕ) (line : LineDefect) → IsFile known bytes → HasLine bytes line
    → IfSome known (λ all. HasLine all line)
line_is_true None bytes line is told = tt
line_is_true (Some all) bytes line is told = subst (λ b. HasLine b line) is told

-- that an output has the bytes of its text is true of any bytes
pub same_is_true : (known : Option (List ℕ)) (told : Option Defect) → IfSome told (λ c. c ≡ SameBytes)
    → IfSome told (λ c. IfSome known (λ all. IsTrueOf all c))
same_is_true known None told = tt
same_is_true None (Some c) told = tt
same_is_true (Some all) (Some c) told = subst (IsTrueOf all) (sym told) tt

-- of a file that cannot be read or written nothing is said
pub fault_is_true : (known : Option (List ℕ)) (f : FileFault) → IfSome known (λ all. IsTrueOf all (File f))
fault_is_true None f = tt
fault_is_true (Some all) f = tt

-- nor of one of which it is said that it cannot be
file_defect : (known : Option (List ℕ)) (c : Defect) → IsFileDefect c → IfSome known (λ all. IsTrueOf all c)
file_defect None c told = tt
file_defect (Some all) c told = subst (IsTrueOf all) (sym told.1) tt

pub unreadable_is_true : (known : Option (List ℕ)) (told : Option Defect) → IfSome told IsFileDefect
    → IfSome told (λ c. IfSome known (λ all. IsTrueOf all c))
unreadable_is_true known None told = tt
unreadable_is_true known (Some c) told = file_defect known c told

-- what is told of a line of the first bytes of a text is told of the text
pub line_of_first : (source text : List ℕ) (count number : ℕ) (fault : LineFault) (told : Option LineDefect)
    → text ≡ take count source → (count ≡ length source) ⊎ IsValidUpTo source count
    → IfSome told (IsLineOf text number fault) → IfSome told (HasLine source)
line_of_first source text count number fault None is part line = tt
line_of_first source text count number fault (Some told) is part line = record {
  count = count;
  number = number;
  fault = fault;
  part = part;
  line = subst (λ t. IsLineOf t number fault told) is line;
}

-- and so is what is told of a line of all of it
pub line_of_text : (text : List ℕ) (number : ℕ) (fault : LineFault) (told : Option LineDefect)
    → IfSome told (IsLineOf text number fault) → IfSome told (HasLine text)
line_of_text text number fault told line =
    line_of_first text text (length text) number fault told (sym (take_all (length text) text (omega arith))) (inl refl) line

-- a text of the same bytes has the same lines
pub same_text : (text other : List ℕ) (told : Option LineDefect) → text ≡ other → IfSome told (HasLine text)
    → IfSome told (HasLine other)
same_text text other told is line = subst (λ t. IfSome told (HasLine t)) is line

-- a file that is known begins as its bytes do
pub begins_as_saved : (known : Option (List ℕ)) (bytes : List ℕ) → IsFile known bytes → BeginsSaved bytes → IfSome known BeginsSaved
begins_as_saved None bytes is begins = tt
begins_as_saved (Some all) bytes is begins = subst BeginsSaved is begins
