-- What the commands make of their files.
use Rattle.std.specs.Prelude.{ℕ, ◌+◌, ◌-◌, ◌*◌, ◌%◌, ◌^◌, Bool, true, false, List, [], ◌∷◌, ◌++◌, Option, Some, None, Result, Ok, drop, replicate, codes}
use Rattle.std.specs.Fmt.{decimal}
use Rattle.byteorder.specs.Endian.{little_number}
use Rattle.rvm_asm.specs.Images.{Piece, piece}
use Rattle.rvm_elf.specs.declared.error.ReadError.{ReadError}
use Rattle.rvm_elf.specs.File.{meaning}
use Rattle.rvm_elf.specs.Load.{loaded}
use Rattle.rvm_board.specs.Board.{at_reset}
use Rattle.rvm_board.specs.Guest.{Guest, fresh}
use Rattle.rvm_dis.specs.Disassembly.{line_at}
use Rattle.rvm_refusal.specs.Refusal.{text_of}
use Rattle.rvm_arguments.specs.declared.arguments.RunArguments.{RunArguments}
use Rattle.rvm_command.specs.declared.refused.Refused.{Refused}
use Rattle.rvm_command.specs.declared.run.Ended.{Ended}
use Rattle.rvm_command.specs.declared.run.Ended.TheVariants.{HaltedWith, StepsSpent}
use Rattle.rvm_command.specs.declared.run.Ended.TheVariants as ended
use Rattle.rvm_command.specs.FaultTexts.{fault_text}
use Rattle.rvm_command.specs.Watched.{Watched, run_with, traced_of}

-- the entry and the pieces of an image, or why a file has no image
abbrev pub FileImage : Type 0
FileImage = Result (ℕ × List Piece) ReadError

-- the image of a file: an ELF file, or raw bytes from the start of RAM on
abbrev pub image_of : (raw : Bool) → List ℕ → FileImage
image_of true file = Ok (0x80000000, piece 0x80000000 file ∷ [])
image_of false file = meaning file

-- a guest at reset whose board was loaded with an image
abbrev pub guest_of : (harts pages entry : ℕ) → List Piece → Guest
guest_of harts pages entry pieces =
    fresh (loaded entry pieces (at_reset harts 0x80000000 (replicate (4096 * pages) 0)))

-- the run of the guest of an image that these arguments ask for, with this input
abbrev pub run_of : RunArguments → (image : ℕ × List Piece) → (input : List ℕ) → Watched
run_of a image input =
    run_with a.seed a.stop_at_fault (traced_of a.trace) a.steps input
    (guest_of a.guest.harts a.guest.pages image.0 image.1)

-- `halted S`, `steps spent`, or the text of a fault
abbrev pub end_text : Ended → List ℕ
end_text (HaltedWith s) = codes "halted " ++ decimal s
end_text StepsSpent = codes "steps spent"
end_text (ended.Fault f) = fault_text f

-- `line L: `, or nothing if a refusal is at no line
abbrev pub at_line : Option ℕ → List ℕ
at_line None = []
at_line (Some l) = codes "line " ++ decimal l ++ codes ": "

-- `line L: refused N NAME`, or `refused N NAME` if the refusal is at no line
abbrev pub refused_text : Refused → List ℕ
refused_text r = at_line r.line ++ text_of r.refusal

-- the lines of the words of bytes that stand from this address on, a multiple of four; bytes after the last whole word
-- have no line
unfoldable pub word_lines : (address : ℕ) → List ℕ → List ℕ
word_lines a (b0 ∷ b1 ∷ b2 ∷ b3 ∷ rest) =
    line_at a (little_number 4 (b0 ∷ b1 ∷ b2 ∷ b3 ∷ [])) ++ codes "\n"
    ++ word_lines ((a + 4) % 2 ^ 32) rest
word_lines a bytes = []

-- the number of bytes from an address up to the next multiple of four
abbrev pub before_word : (address : ℕ) → ℕ
before_word a = (4 - a % 4) % 4

-- the lines of the whole aligned words of pieces, in order
unfoldable pub listing : List Piece → List ℕ
listing [] = []
listing (p ∷ ps) =
    word_lines ((p.address + before_word p.address) % 2 ^ 32) (drop (before_word p.address) p.bytes)
    ++ listing ps
