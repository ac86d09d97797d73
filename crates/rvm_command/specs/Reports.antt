-- What is reported of a run once it has ended.
use Rattle.std.specs.Prelude.{ℕ, zero, suc, ◌+◌, ◌/◌, ◌%◌, ◌^◌, List, [], ◌++◌, Option, Some, None, codes}
use Rattle.rvm_arguments.specs.declared.arguments.Report.{Report}
use Rattle.rvm_arguments.specs.declared.arguments.Report.TheVariants.{Coverage, Profile, SavedGuest, Signature}
use Rattle.rvm_arguments.specs.declared.arguments.ReportArguments.{ReportArguments}
use Rattle.rvm_arguments.specs.declared.arguments.WordRange.{WordRange}
use Rattle.rvm_asm.specs.Images.{Piece}
use Rattle.rvm_board.specs.Guest.{Guest}
use Rattle.rvm_dis.specs.Pieces.{hex_digits}
use Rattle.rvm_command.specs.Saved.{saved_bytes}
use Rattle.rvm_command.specs.Coverage.{coverage}
use Rattle.rvm_command.specs.Profile.{profile}
use Rattle.rvm_command.specs.Watched.{Watched}
use Rattle.rvm_command.specs.WordAt.{word_at}

-- the line of a word, if there is one: eight hexadecimal digits
abbrev pub word_row : Option ℕ → List ℕ
word_row None = []
word_row (Some word) = hex_digits 8 word ++ codes "\n"

-- the lines of so many words of RAM, from an address on; an address with no word of RAM has no line
unfoldable pub word_rows : (count address : ℕ) → Guest → List ℕ
word_rows zero a g = []
word_rows (suc n) a g = word_row (word_at a g) ++ word_rows n ((a + 4) % 2 ^ 32) g

-- the signature of a guest: the lines of the words of a range
abbrev pub signature : WordRange → Guest → List ℕ
signature range g = word_rows (range.length / 4) range.from g

-- what is reported of a run in RAM of this many pages, of an image with these pieces, by a file of symbols
abbrev pub reported : Report → (pages : ℕ) → List Piece → (symbols : List ℕ) → Watched → List ℕ
reported (Signature range) pages pieces symbols r = signature range r.guest
reported Coverage pages pieces symbols r = coverage pieces r.steps
reported (Profile file) pages pieces symbols r = profile pages symbols r.steps
reported SavedGuest pages pieces symbols r = saved_bytes r.guest

-- the report, if one is asked for
abbrev pub report_text : Option ReportArguments → (pages : ℕ) → List Piece → (symbols : List ℕ) → Watched → List ℕ
report_text None pages pieces symbols r = []
report_text (Some asked) pages pieces symbols r = reported asked.report pages pieces symbols r
