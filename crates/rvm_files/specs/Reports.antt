-- What a command reported, and what is said of a refusal for which nothing is found.
use Rattle.std.specs.Prelude.{◌≡◌, ℕ, List, [], ◌++◌, Option, codes}
use Rattle.std.specs.Io.KnownBytes.{Appends}
use Rattle.rvm_files.specs.declared.unfound.Unfound.{Unfound}
use Rattle.rvm_files.specs.declared.unfound.Unfound.TheVariants as unfound

-- what a command reported is of a refusal
pub record TellsRefusal (report : List ℕ) : Type 0 where
  pub place : List ℕ
  pub words : List ℕ
  pub text : report ≡ place ++ (codes "refused " ++ words)

-- what is said if nothing is found to be wrong with the files
abbrev pub unfound_words : Unfound → List ℕ
unfound_words unfound.Cause = codes "nothing wrong was found with the files; a device or a pipe is not read again"
unfound_words unfound.Memory = codes "memory ran out: give this process more"
unfound_words unfound.Line = codes "this is no line of a text of its kind (docs/ASSEMBLY.md, docs/SCRIPTS.md); it is not shown, since the text is not UTF-8, or cannot be read again"
unfound_words unfound.Symbols = codes "the symbols: this is no line that nm -n prints, or its address is below the one before it"
unfound_words unfound.Journals = codes "no order: give the journals of all hosts, each to its last line"
unfound_words unfound.SavedGuest = codes "IMAGE: if it begins with a byte 0, it is read as a saved guest, and was cut off or changed; plain bytes want --raw"
unfound_words unfound.InputLine = codes "standard input: this is no line of a script (docs/SCRIPTS.md)"
unfound_words unfound.SessionLine = codes "the session: this is no line of one (docs/SCRIPTS.md)"
unfound_words unfound.LongInput = codes "standard input: this has more than 67108864 bytes"
unfound_words unfound.RunWrite = codes "nothing wrong was found with the files: a write to standard output, or to a file that the run writes, may have failed"
unfound_words unfound.AsmWrite = codes "nothing wrong was found with the files: a write to OUT may have failed"
unfound_words unfound.DebugStream = codes "nothing wrong was found with the files: a read of standard input, or a write to standard output, may have failed"
unfound_words unfound.MoveStream = codes "nothing wrong was found with the files: a connection over loopback, or a write to standard output, may have failed"
unfound_words unfound.Write = codes "nothing wrong was found with the files: a write to standard output may have failed"

-- a report went to a writer that held `before`
abbrev pub GoesOut : (report : List ℕ) → (before after : Option (List ℕ)) → Type 0
GoesOut [] before after = after ≡ before
GoesOut report before after = Appends before after report
