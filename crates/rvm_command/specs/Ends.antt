-- How each command ends, what it wrote to its output until then, and the status that it returns.
use Rattle.std.specs.Prelude.{◌≡◌, ◌⊎◌, ℕ, zero, suc, ◌+◌, ◌*◌, ◌^◌, ◌<◌, ◌≤◌, ◌==◌, ◌&&◌, not, Bool, true, false, List, [], ◌++◌, Option, Some, None, Result, Ok, Err, IfOk, IfSome, IsOk, length, take, codes, count_by}
use Rattle.std.specs.Str.{IsUtf8, IsValidUpTo}
use Rattle.std.specs.Io.KnownBytes.{Appends, Keeps}
use Rattle.std.specs.List.{concat}
use Rattle.rvm_asm.specs.Images.{Piece}
use Rattle.rvm_elf.specs.declared.error.WriteError.{WriteError}
use Rattle.rvm_elf.specs.declared.error.WriteError.TheVariants as image
use Rattle.rvm_elf.specs.Load.{fits}
use Rattle.rvm_elf.specs.Spelling.{in_reach}
use Rattle.rvm_board.specs.Guest.{Guest}
use Rattle.rvm_asm.specs.declared.error.AsmError.{AsmError}
use Rattle.rvm_asm.specs.Assembly.{IsAssembly}
use Rattle.rvm_asm.specs.Refusals.{IsError}
use Rattle.rvm_debug.specs.declared.script.ScriptError.{ScriptError}
use Rattle.rvm_debug.specs.declared.script.ScriptError.TheVariants as script
use Rattle.rvm_debug.specs.Script.{Answers, script_of}
use Rattle.rvm_debug.specs.Words.{lines}
use Rattle.rvm_guest.specs.Pages.{count_of}
use Rattle.rvm_command.specs.declared.saved_fault.RestoreFault.{RestoreFault}
use Rattle.rvm_command.specs.declared.saved_fault.SaveFault.{SaveFault}
use Rattle.rvm_command.specs.declared.saved_fault.SaveFault.TheVariants as save
use Rattle.rvm_command.specs.Restoring.{IsRefused}
use Rattle.rvm_command.specs.SavedRefusals.{restore_refusal}
use Rattle.rvm_command.specs.Saved.{IsSavedGuest, is_saved}
use Rattle.rvm_refusal.specs.declared.refusal.Refusal.TheVariants.{OutOfMemory, OutsideRam, BadToken, LinkFault}
use Rattle.rvm_arguments.specs.declared.arguments.DebugArguments.{DebugArguments}
use Rattle.rvm_arguments.specs.declared.arguments.Report.TheVariants.{SavedGuest}
use Rattle.rvm_arguments.specs.declared.arguments.ReportArguments.{ReportArguments}
use Rattle.rvm_arguments.specs.declared.arguments.RunArguments.{RunArguments}
use Rattle.rvm_arguments.specs.declared.arguments.StatusOf.{StatusOf}
use Rattle.rvm_arguments.specs.declared.arguments.TraceArguments.{TraceArguments}
use Rattle.rvm_arguments.specs.declared.arguments.StatusOf.TheVariants as tells
use Rattle.rvm_command.specs.declared.refused.Refused.{Refused}
use Rattle.rvm_command.specs.declared.run.Ended.{Ended}
use Rattle.rvm_command.specs.declared.run.Ended.TheVariants as ended
use Rattle.rvm_command.specs.declared.run.Ended.TheVariants.{HaltedWith, StepsSpent}
use Rattle.rvm_command.specs.Assembled.{IsFileOf}
use Rattle.rvm_command.specs.Command.{FileImage, end_text, guest_of, image_of, listing, run_of}
use Rattle.rvm_command.specs.ExtendedRuns.{session_told}
use Rattle.rvm_command.specs.Reports.{report_text}
use Rattle.rvm_command.specs.SymbolLines.{refused_line}
use Rattle.rvm_command.specs.Watched.{Watched, run_with, traced_of}
use Rattle.rvm_command.specs.Refusals.{IsTold, refused, refused_at, refused_of_text, refused_of_script}
use Rattle.rvm_elf.specs.Refusals.{refusal_of_file, refusal_of_image}

-- a file is refused: for its fault, or, if it has none, since memory ran out
abbrev pub IsFileRefusal : FileImage → Refused → Type 0
IsFileRefusal (Err fault) r = r ≡ refused (refusal_of_file fault)
IsFileRefusal (Ok image) r = r ≡ refused OutOfMemory

-- a file has an image that lies in this many pages
abbrev pub IsLoadable : FileImage → (pages : ℕ) → Type 0
IsLoadable image pages = IfOk image (λ i. fits i.0 i.1 (4096 * pages) ≡ true) × IsOk image

-- a guest is refused: for the fault of its file, since the image does not lie in RAM, or since memory ran out
abbrev pub IsLoadRefusal : FileImage → (pages : ℕ) → Refused → Type 0
IsLoadRefusal (Err fault) pages r = r ≡ refused (refusal_of_file fault)
IsLoadRefusal (Ok image) pages r =
    (r ≡ refused OutOfMemory)
    ⊎ ((r ≡ refused OutsideRam) × (fits image.0 image.1 (4096 * pages) ≡ false))

-- a run has a trace
abbrev pub IsTraced : Option TraceArguments → Type 0
IsTraced None = ⊥
IsTraced (Some trace) = Unit {0}

-- a run has a report
abbrev pub IsReported : Option ReportArguments → Type 0
IsReported None = ⊥
IsReported (Some report) = Unit {0}

-- something is to be written of a run: it has output, or a trace or a report, each of which is flushed
abbrev pub Writes : Watched → Option TraceArguments → Option ReportArguments → Type 0
Writes r trace report = (0 < length r.written) ⊎ (IsTraced trace ⊎ IsReported report)

-- a file of symbols is refused at its first bad line
abbrev pub IsSymbolRefusal : (symbols : List ℕ) → Refused → Type 0
IsSymbolRefusal symbols r = (n : ℕ) × (refused_line symbols ≡ Some n) × (r ≡ refused_at n BadToken)

-- the run of a guest that these arguments ask for, with this input
abbrev pub guest_run : RunArguments → Guest → (input : List ℕ) → Watched
guest_run a g input = run_with a.seed a.stop_at_fault (traced_of a.trace) a.steps input g

-- a run is refused before its first turn: for its symbols or, if these are good, since its guest is not loaded
abbrev pub IsRunRefusal : RunArguments → (file symbols : List ℕ) → Refused → Type 0
IsRunRefusal a file symbols r =
    IsSymbolRefusal symbols r
    ⊎ ((refused_line symbols ≡ None) × IsLoadRefusal (image_of a.guest.raw file) a.guest.pages r)

-- a run can begin: its symbols are good, and its image lies in RAM
abbrev pub CanRun : RunArguments → (file symbols : List ℕ) → Type 0
CanRun a file symbols = (refused_line symbols ≡ None) × IsLoadable (image_of a.guest.raw file) a.guest.pages

-- a guest is saved after the last turn
abbrev pub IsSaving : Option ReportArguments → Type 0
IsSaving None = ⊥
IsSaving (Some asked) = asked.report ≡ SavedGuest

-- a report failed: a write did, or memory ran out as the guest was saved
abbrev pub IsFaultOf : Option ReportArguments → SaveFault → Type 0
IsFaultOf report save.LinkFault = Unit {0}
IsFaultOf report save.OutOfMemory = IsSaving report

-- a run that had begun broke off: a write failed, or memory ran out as its guest was saved
abbrev pub IsBroken : Option ReportArguments → Refused → Type 0
IsBroken report r = (r ≡ refused LinkFault) ⊎ ((r ≡ refused OutOfMemory) × IsSaving report)

-- a run of an image has made its last turn, or was refused: before its first, or since it broke off
abbrev pub IsImageRunEnd : RunArguments → (file input symbols : List ℕ) → Result Ended Refused
    → (before after trace_before trace_after report_before report_after : Option (List ℕ)) → Type 0
IsImageRunEnd a file input symbols (Ok ended) before after trace_before trace_after report_before report_after =
    CanRun a file symbols
    × IfOk (image_of a.guest.raw file) (λ i.
    (ended ≡ (run_of a i input).ended) × Appends before after (run_of a i input).written
    × Appends trace_before trace_after (concat (run_of a i input).lines)
    × Appends report_before report_after (report_text a.report a.guest.pages i.1 symbols (run_of a i input)))
IsImageRunEnd a file input symbols (Err r) before after trace_before trace_after report_before report_after =
    (IsRunRefusal a file symbols r × (after ≡ before) × (trace_after ≡ trace_before)
    × (report_after ≡ report_before))
    ⊎ (IsBroken a.report r × CanRun a file symbols
    × IfOk (image_of a.guest.raw file) (λ i. Writes (run_of a i input) a.trace a.report))

-- a saved guest is refused: for the fault of its bytes, or since memory ran out
abbrev pub IsSavedRefusal : (file : List ℕ) → Refused → Type 0
IsSavedRefusal file r = (fault : RestoreFault) × (r ≡ refused (restore_refusal fault)) × IsRefused (IsSavedGuest file) fault

-- the same of a run of a saved guest, which has no image
abbrev pub IsSavedRunEnd : RunArguments → (file input symbols : List ℕ) → Result Ended Refused
    → (before after trace_before trace_after report_before report_after : Option (List ℕ)) → Type 0
IsSavedRunEnd a file input symbols (Ok ended) before after trace_before trace_after report_before report_after =
    (refused_line symbols ≡ None)
    × ((g : Guest) × IsSavedGuest file g
    × (ended ≡ (guest_run a g input).ended) × Appends before after (guest_run a g input).written
    × Appends trace_before trace_after (concat (guest_run a g input).lines)
    × Appends report_before report_after (report_text a.report (count_of g) [] symbols (guest_run a g input)))
IsSavedRunEnd a file input symbols (Err r) before after trace_before trace_after report_before report_after =
    ((IsSymbolRefusal symbols r ⊎ ((refused_line symbols ≡ None) × IsSavedRefusal file r)) × (after ≡ before)
    × (trace_after ≡ trace_before) × (report_after ≡ report_before))
    ⊎ (IsBroken a.report r × (refused_line symbols ≡ None)
    × ((g : Guest) × IsSavedGuest file g × Writes (guest_run a g input) a.trace a.report))

-- a run of a saved guest can begin: its symbols are good, and its bytes are a saved guest
abbrev pub CanRunSaved : (file symbols : List ℕ) → Type 0
CanRunSaved file symbols = (refused_line symbols ≡ None) × ((g : Guest) × IsSavedGuest file g)

-- a run of a file can begin
abbrev pub CanBeginAs : (saved : Bool) → RunArguments → (file symbols : List ℕ) → Type 0
CanBeginAs true a file symbols = CanRunSaved file symbols
CanBeginAs false a file symbols = CanRun a file symbols

-- a run of a file can begin, as one of a saved guest or of an image
abbrev pub CanBegin : RunArguments → (file symbols : List ℕ) → Type 0
CanBegin a file symbols = CanBeginAs (is_saved a.guest.raw file) a file symbols

-- a run of a file ends as one of a saved guest, or as one of an image
abbrev pub IsRunEndOf : (saved : Bool) → RunArguments → (file input symbols : List ℕ) → Result Ended Refused
    → (before after trace_before trace_after report_before report_after : Option (List ℕ)) → Type 0
IsRunEndOf true a file input symbols r before after trace_before trace_after report_before report_after =
    IsSavedRunEnd a file input symbols r before after trace_before trace_after report_before report_after
IsRunEndOf false a file input symbols r before after trace_before trace_after report_before report_after =
    IsImageRunEnd a file input symbols r before after trace_before trace_after report_before report_after

-- a run has made its last turn, or was refused: before its first, or since it broke off
abbrev pub IsRunEnd : RunArguments → (file input symbols : List ℕ) → Result Ended Refused
    → (before after trace_before trace_after report_before report_after : Option (List ℕ)) → Type 0
IsRunEnd a file input symbols r before after trace_before trace_after report_before report_after =
    IsRunEndOf (is_saved a.guest.raw file) a file input symbols r before after trace_before trace_after report_before report_after

-- the lines of an image are written, or it was refused: for its file, or since a write failed
abbrev pub IsListEnd : FileImage → Result (Unit {0}) Refused
    → (before after : Option (List ℕ)) → Type 0
IsListEnd image (Ok done) before after = IsOk image × IfOk image (λ i. Appends before after (listing i.1))
IsListEnd image (Err r) before after =
    (IsFileRefusal image r × (after ≡ before)) ⊎ ((r ≡ refused LinkFault) × IsOk image)

-- a script was answered to its end, or up to the first line that is not in the grammar; or nothing was answered, since
-- it is too long or memory ran out; or a read or a write failed
abbrev pub IsScriptEnd : (text : List ℕ) → Answers → Result (Unit {0}) ScriptError
    → (before after : Option (List ℕ)) → Type 0
IsScriptEnd text told (Ok done) before after = (told.end ≡ None) × Appends before after told.text
IsScriptEnd text told (Err (script.BadToken n)) before after =
    (told.end ≡ Some n) × Appends before after told.text
IsScriptEnd text told (Err script.TooLong) before after =
    (2 ^ 26 < length text) × Keeps before after
IsScriptEnd text told (Err script.OutOfMemory) before after = Keeps before after
IsScriptEnd text told (Err script.LinkFault) before after = Unit {0}

-- the script that a reader gives, if that is known, ended so for this guest
abbrev pub IsScriptEndOf : Option (List ℕ) → Guest → Result (Unit {0}) ScriptError
    → (before after : Option (List ℕ)) → Type 0
IsScriptEndOf remaining guest result before after =
    IfSome remaining (λ s. IsScriptEnd s (script_of (lines s) 1 guest) result before after)

-- the extended session that a reader gives, if that is known, ended for this guest as a script does
abbrev pub IsExtendedEndOf : Option (List ℕ) → Guest → Result (Unit {0}) ScriptError
    → (before after : Option (List ℕ)) → Type 0
IsExtendedEndOf remaining guest result before after =
    IfSome remaining (λ s. IsScriptEnd s (session_told (lines s) guest) result before after)

-- the extended session, or else the script, that a reader gives ended so for this guest
abbrev pub IsSessionEndOf : (extended : Bool) → Option (List ℕ) → Guest → Result (Unit {0}) ScriptError
    → (before after : Option (List ℕ)) → Type 0
IsSessionEndOf true remaining guest result before after = IsExtendedEndOf remaining guest result before after
IsSessionEndOf false remaining guest result before after = IsScriptEndOf remaining guest result before after

-- the session of a debugged guest was answered to its end, or was refused: before its first line, or after it began
abbrev pub IsDebugEnd : DebugArguments → (file : List ℕ) → (session : Option (List ℕ))
    → Result (Unit {0}) Refused → (before after : Option (List ℕ)) → Type 0
IsDebugEnd a file session (Ok done) before after =
    IsLoadable (image_of a.guest.raw file) a.guest.pages
    × IfOk (image_of a.guest.raw file) (λ i.
    IsSessionEndOf a.extended session (guest_of a.guest.harts a.guest.pages i.0 i.1) (Ok done) before after)
IsDebugEnd a file session (Err r) before after =
    (IsLoadRefusal (image_of a.guest.raw file) a.guest.pages r × (after ≡ before))
    ⊎ (IsLoadable (image_of a.guest.raw file) a.guest.pages
    × ((e : ScriptError) × (r ≡ refused_of_script e)
    × IfOk (image_of a.guest.raw file) (λ i.
    IsSessionEndOf a.extended session (guest_of a.guest.harts a.guest.pages i.0 i.1) (Err e) before after)))

-- the line, counted from 1, in which the byte with this index stands
abbrev pub line_of_byte : (index : ℕ) → List ℕ → ℕ
line_of_byte i bytes = count_by (λ b. b == 10) (take i bytes) + 1

-- an image has no file for this reason; memory may run out for any image
abbrev pub IsUnwritable : List Piece → WriteError → Type 0
IsUnwritable pieces image.OutOfMemory = Unit {0}
IsUnwritable pieces image.TooMany = 16 < length pieces
IsUnwritable pieces image.OutOfReach = (length pieces ≤ 16) × (in_reach pieces ≡ false)

-- a text has no file: it is no UTF-8, has no assembly, or its assembly has no file
abbrev pub IsTextRefusal : (text : List ℕ) → Refused → Type 0
IsTextRefusal text r =
    ((n : ℕ) × IsValidUpTo text n × (r ≡ refused_at (line_of_byte n text) BadToken))
    ⊎ (((e : AsmError) × IsUtf8 text × IsError text e × (r ≡ refused_of_text e))
    ⊎ ((e : WriteError) × (entry : ℕ) × (pieces : List Piece) × IsAssembly text entry pieces
    × IsUnwritable pieces e × (r ≡ refused (refusal_of_image e))))

-- the file of a text was written, or the text was refused: for its fault, or since the write failed
abbrev pub IsAsmEnd : (text : List ℕ) → Result (Unit {0}) Refused
    → (before after : Option (List ℕ)) → Type 0
IsAsmEnd text (Ok done) before after = (file : List ℕ) × IsFileOf text file × Appends before after file
IsAsmEnd text (Err r) before after =
    (IsTextRefusal text r × (after ≡ before))
    ⊎ ((r ≡ refused LinkFault) × ((file : List ℕ) × IsFileOf text file))

-- the status of a command that ends so: 0 if it is done, 1 if it was refused, with the refusal written to `errors`
abbrev pub HasStatus : (status : ℕ) → (End : Result (Unit {0}) Refused → Type 0)
    → (before after : Option (List ℕ)) → Type 0
HasStatus zero End before after = End (Ok tt) × (after ≡ before)
HasStatus (suc zero) End before after = (r : Refused) × End (Err r) × IsTold r before after
HasStatus (suc (suc n)) End before after = ⊥

-- the status of a run that ended so, by what the user asked the status to tell
abbrev pub run_status : StatusOf → Ended → ℕ
run_status tells.Command ended = 0
run_status tells.Verdict (HaltedWith zero) = 0
run_status tells.Verdict (HaltedWith (suc n)) = 3
run_status tells.Verdict StepsSpent = 4
run_status tells.Verdict (ended.Fault f) = 5
run_status tells.Guest (HaltedWith n) = n
run_status tells.Guest StepsSpent = 4
run_status tells.Guest (ended.Fault f) = 5

-- the status of the command `run`, by what the user asked it to tell: the status for how the run ended, which is
-- written to `errors`, or 1 if the run was refused, with the refusal written there
abbrev pub RunHasStatus : StatusOf → (status : ℕ) → (End : Result Ended Refused → Type 0)
    → (before after : Option (List ℕ)) → Type 0
RunHasStatus asked status End before after =
    ((e : Ended) × (status ≡ run_status asked e) × End (Ok e) × Appends before after (end_text e ++ codes "\n"))
    ⊎ ((r : Refused) × (status ≡ 1) × End (Err r) × IsTold r before after)
