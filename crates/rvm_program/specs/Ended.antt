-- How a command ended, given the files that it names.
use Rattle.std.specs.Borrow.{Bor}
use Rattle.std.specs.Io.KnownBytes.{Appends}
use Rattle.std.specs.Str.{bytes_eq}
use Rattle.std.specs.Prelude.{◌≡◌, ◌⊎◌, ⊤, codes, ℕ, zero, suc, Bool, true, false, List, [], ◌∷◌, Option, None, Some, Result, map, option_map}
use Rattle.rvm_arguments.specs.declared.arguments.Arguments.{Arguments}
use Rattle.rvm_arguments.specs.declared.arguments.Arguments.TheVariants.{Run, Live, Orders, Asm, Dis, Debug, Script, Move, Audit, Host, Tell, Replay, ReplayTurns, AuditJournals}
use Rattle.rvm_arguments.specs.declared.arguments.AsmArguments.{AsmArguments}
use Rattle.rvm_arguments.specs.declared.arguments.AuditJournalsArguments.{AuditJournalsArguments}
use Rattle.rvm_arguments.specs.declared.arguments.DebugArguments.{DebugArguments}
use Rattle.rvm_arguments.specs.declared.arguments.DisArguments.{DisArguments}
use Rattle.rvm_arguments.specs.declared.arguments.HostArguments.{HostArguments}
use Rattle.rvm_arguments.specs.declared.arguments.LiveArguments.{LiveArguments}
use Rattle.rvm_arguments.specs.declared.arguments.MoveArguments.{MoveArguments}
use Rattle.rvm_arguments.specs.declared.arguments.ReplayArguments.{ReplayArguments}
use Rattle.rvm_arguments.specs.declared.arguments.ReplayTurnsArguments.{ReplayTurnsArguments}
use Rattle.rvm_arguments.specs.declared.arguments.ReportArguments.{ReportArguments}
use Rattle.rvm_arguments.specs.declared.arguments.OrdersArguments.{OrdersArguments}
use Rattle.rvm_arguments.specs.declared.arguments.RunArguments.{RunArguments}
use Rattle.rvm_arguments.specs.declared.arguments.ScriptArguments.{ScriptArguments}
use Rattle.rvm_arguments.specs.declared.arguments.TraceArguments.{TraceArguments}
use Rattle.rvm_command.specs.Command.{image_of}
use Rattle.rvm_command.specs.declared.refused.Refused.{Refused}
use Rattle.rvm_command.specs.declared.run.Ended.{Ended}
use Rattle.rvm_command.specs.Ends.{HasStatus, IsAsmEnd, IsDebugEnd, IsListEnd, IsRunEnd, RunHasStatus}
use Rattle.rvm_command.specs.Seeds.{IsOrdersEnd, OrdersHaveStatus}
use Rattle.rvm_command.specs.Refusals.{IsTold, refused}
use Rattle.rvm_replay.specs.Replays.{HasReplayStatus, HasSessionStatus}
use Rattle.rvm_host_command.specs.Hosted.{IsHostedTo}
use Rattle.rvm_host_command.specs.Live.{IsLiveTo}
use Rattle.rvm_replay.specs.Findings.{HasAuditStatus}
use Rattle.rvm_replay.specs.Turns.{HasTurnStatus}
use Rattle.rvm_journal.specs.Whole.{IsJournal}
use Rattle.rvm_replay.specs.declared.audit.AuditText.{AuditText}
use Rattle.rvm_replay.specs.declared.audit.AuditText.TheVariants.{Chart, Order, Summary}
use Rattle.rvm_replay.specs.Journals.{AreTexts, JournalText}
use Rattle.rvm_move.specs.Ended.{IsMoved, IsNotMoved}
use Rattle.rvm_move.specs.Orders.{IsAudited, IsNotAudited}
use Rattle.rvm_files.specs.Files.{IsApart, IsCreated, IsFile, IsFileRefusal, IsFirstInput, IsImage, IsInput, IsOpened, IsRefusedFile, IsUnread, Named, file_text, symbols_name}
use Rattle.rvm_refusal.specs.declared.refusal.Refusal.{Refusal}
use Rattle.rvm_move.specs.ScriptEnds.{IsScriptEnd}

-- what a writer held before a command and after it, if that is known
pub record Written : Type 0 where
  pub before : Option (List ℕ)
  pub after : Option (List ℕ)

-- what a writer held before and after
abbrev pub written : (before after : Option (List ℕ)) → Written
written before after = record { before = before; after = after }

-- a writer is the file with this name, new or emptied; without a name it may be any
abbrev pub IsNamedFile : (created : Named) → (name : Option (Bor (List ℕ))) → (held : Option (List ℕ)) → Type 0
IsNamedFile created None held = ⊤
IsNamedFile created (Some name) held = IsCreated (created name.now) held

-- the name of the file of a trace, if there is one
abbrev pub trace_name : Option TraceArguments → Option (Bor (List ℕ))
trace_name trace = option_map (λ t. t.file) trace

-- the name of the file of a report, if there is one
abbrev pub report_name : Option ReportArguments → Option (Bor (List ℕ))
report_name report = option_map (λ r. r.file) report

-- a run of this image with this input and these symbols ended so, and wrote to the files of its trace and its report, if
-- it has them
pub record HasRunTo (created : Named) (a : RunArguments) (image input symbols : List ℕ) (end : Result Ended Refused)
    (output : Written) : Type 0 where
  pub trace : Written
  pub report : Written
  pub trace_is : IsNamedFile created (trace_name a.trace) trace.before
  pub report_is : IsNamedFile created (report_name a.report) report.before
  pub ended : IsRunEnd a image input symbols end output.before output.after trace.before trace.after report.before report.after

-- `run` was given the image that it names, and the input and the symbols, if it names some, and has the status that was
-- asked for
pub record RunEnded (files created : Named) (a : RunArguments) (status : ℕ) (output errors : Written) : Type 0 where
  pub image : List ℕ
  pub input : List ℕ
  pub symbols : List ℕ
  pub image_is : IsFile (files a.guest.image.now) image
  pub input_is : IsInput files a.input input
  pub symbols_are : IsInput files (symbols_name a.report) symbols
  pub ended : RunHasStatus a.status status (λ end. HasRunTo created a image input symbols end output)
      errors.before errors.after

-- a live run was given the image, or the saved guest, that it names, and has this status
pub record HasRunLive (files : Named) (a : LiveArguments) (status : ℕ) (output : Written) : Type 0 where
  pub image : List ℕ
  pub image_is : IsFile (files a.guest.image.now) image
  pub ended : IsLiveTo a image status output.before output.after

-- a live run was given its files, or did not begin, and wrote nothing to the output
abbrev pub LiveEnded : (files : Named) → LiveArguments → (status : ℕ) → (output : Written) → Type 0
LiveEnded files a status output = HasRunLive files a status output ⊎ ((status ≡ 1) × (output.after ≡ output.before))

-- `run --orders` was given the image that it names, and of the input, if it names some, at most one byte for each turn
pub record OrdersEnded (files : Named) (a : OrdersArguments) (status : ℕ) (output errors : Written) : Type 0 where
  pub image : List ℕ
  pub input : List ℕ
  pub image_is : IsFile (files a.guest.image.now) image
  pub input_is : IsFirstInput files a.input a.steps input
  pub ended : OrdersHaveStatus a status (λ end. IsOrdersEnd a image input end output.before output.after)
      errors.before errors.after

-- `asm` was given the text that it names, and wrote to the file that it names, which had other bytes
pub record AsmEnded (files created : Named) (a : AsmArguments) (status : ℕ) (errors : Written) : Type 0 where
  pub text : List ℕ
  pub file : Written
  pub text_is : IsFile (files a.source.now) text
  pub apart : IsApart (files a.output.now) text
  pub file_is : IsCreated (created a.output.now) file.before
  pub ended : HasStatus status (λ end. IsAsmEnd text end file.before file.after) errors.before errors.after

-- `dis` was given the image that it names, and wrote to a buffer in front of the output
pub record DisEnded (files : Named) (a : DisArguments) (status : ℕ) (output : Option (List ℕ)) (errors : Written)
    : Type 0 where
  pub image : List ℕ
  pub told : Option (List ℕ)
  pub image_is : IsFile (files a.image.now) image
  pub ended : HasStatus status (λ end. IsListEnd (image_of a.raw image) end output told) errors.before errors.after

-- `debug` was given the image that it names and a script, and wrote to a buffer in front of the output
pub record DebugEnded (files : Named) (a : DebugArguments) (status : ℕ) (script output : Option (List ℕ))
    (errors : Written) : Type 0 where
  pub image : List ℕ
  pub told : Option (List ℕ)
  pub image_is : IsFile (files a.guest.image.now) image
  pub ended : HasStatus status (λ end. IsDebugEnd a image script end output told) errors.before errors.after

-- `script` was given the image and the script that it names, and wrote to a buffer in front of the output
pub record ScriptEnded (files : Named) (a : ScriptArguments) (status : ℕ) (output : Option (List ℕ)) (errors : Written)
    : Type 0 where
  pub image : List ℕ
  pub script : Option (List ℕ)
  pub told : Option (List ℕ)
  pub image_is : IsFile (files a.guest.image.now) image
  pub script_is : IsOpened (files a.script.now) script
  pub ended : HasStatus status (λ end. IsScriptEnd a image script end output told) errors.before errors.after

-- a move was made and has this status, or it was not made and the status is 1
abbrev pub MoveHasStatus : (status : ℕ) → MoveArguments → (image : List ℕ)
    → (errors errors' output output' : Option (List ℕ)) → Type 0
MoveHasStatus status a image errors errors' output output' =
    IsMoved a image status errors errors' output output' ⊎ ((status ≡ 1) × IsNotMoved a image errors errors')

-- `move` was given the image that it names
pub record MoveEnded (files : Named) (a : MoveArguments) (status : ℕ) (output errors : Written) : Type 0 where
  pub image : List ℕ
  pub image_is : IsFile (files a.guest.image.now) image
  pub ended : MoveHasStatus status a image errors.before errors.after output.before output.after

-- by the status: an order of a move was written and nothing was reported, or no order was written
abbrev pub AuditHasStatus : (status : ℕ) → MoveArguments → (image : List ℕ)
    → (output told errors errors' : Option (List ℕ)) → Type 0
AuditHasStatus zero a image output told errors errors' = IsAudited a image output told × (errors' ≡ errors)
AuditHasStatus (suc zero) a image output told errors errors' = IsNotAudited a image errors errors'
AuditHasStatus (suc (suc n)) a image output told errors errors' = ⊥

-- `audit` was given the image that it names, and wrote to a buffer in front of the output
pub record AuditEnded (files : Named) (a : MoveArguments) (status : ℕ) (output : Option (List ℕ)) (errors : Written)
    : Type 0 where
  pub image : List ℕ
  pub told : Option (List ℕ)
  pub image_is : IsFile (files a.guest.image.now) image
  pub ended : AuditHasStatus status a image output told errors.before errors.after

-- `host` was given the files that it names, and worked until it came to an end with this status; its console shows what the
-- guest sent while it was there
pub record HasHosted (files : Named) (a : HostArguments) (status : ℕ) (output : Written) : Type 0 where
  pub peers : List ℕ
  pub image : List ℕ
  pub peers_is : IsFile (files a.peers.now) peers
  pub image_is : IsImage files a.guest image
  pub hosted : IsHostedTo a peers image status output.before output.after

-- by the status: `host` worked to its end, and was asked for a verdict if the status is one; or it did not begin, or
-- the output of its console failed
abbrev pub HostEnded : (files : Named) → HostArguments → (status : ℕ) → (output : Written) → Type 0
HostEnded files a zero output = HasHosted files a 0 output
HostEnded files a (suc zero) output = ⊤
HostEnded files a (suc (suc zero)) output = ⊥
HostEnded files a (suc (suc (suc zero))) output = (a.verdict ≡ true) × HasHosted files a 3 output
HostEnded files a (suc (suc (suc (suc n)))) output = ⊥

-- by the status: all that a host was told to do happened, something did not, or an answer was lost
abbrev pub TellEnded : (status : ℕ) → Type 0
TellEnded status = (status ≡ 0) ⊎ ((status ≡ 1) ⊎ (status ≡ 3))

-- a file was refused, and that was reported with its name
pub record IsFileTold (files : Named) (errors : Written) : Type 0 where
  pub name : List ℕ
  pub why : Refusal
  pub reason : IsRefusedFile (files name) why
  pub told : Appends errors.before errors.after (file_text name why)

-- there was no memory for a buffer, and that was reported
abbrev pub IsBufferTold : (errors : Written) → Type 0
IsBufferTold errors = (why : Refusal) × IsFileRefusal why × IsTold (refused why) errors.before errors.after

-- a command did not begin: one of its files was refused, or memory ran out; and that was reported
abbrev pub IsNotBegun : (files : Named) → (errors : Written) → Type 0
IsNotBegun files errors = IsFileTold files errors ⊎ IsBufferTold errors

-- the bytes of a file, if it is named
abbrev pub IsFileOrNone : (files : Named) → (name : Option (Bor (List ℕ))) → (bytes : List ℕ) → Type 0
IsFileOrNone files None bytes = bytes ≡ []
IsFileOrNone files (Some name) bytes = IsFile (files name.now) bytes

-- a session is all that standard input gives, or all bytes of a file
abbrev pub IsGiven : (standard : Bool) → (known input session : Option (List ℕ)) → Type 0
IsGiven true known input session = session ≡ input
IsGiven false known input session = IsOpened known session

-- the session with this name: standard input for `-`, or a file
abbrev pub IsSession : (files : Named) → (name : List ℕ) → (input session : Option (List ℕ)) → Type 0
IsSession files name input session = IsGiven (bytes_eq name (codes "-")) (files name) input session

-- a session was answered for the guest of a journal, or not, and wrote to a buffer in front of the output
pub record IsSessionEnd (files : Named) (a : ReplayArguments) (name : List ℕ) (status : ℕ) (journal image : List ℕ)
    (input output : Option (List ℕ)) (errors : Written) : Type 0 where
  pub session : Option (List ℕ)
  pub told : Option (List ℕ)
  pub session_is : IsSession files name input session
  pub ended : HasSessionStatus status a.journal.now a.until journal image session output told errors.before errors.after

-- a session was answered for the guest of a journal, or did not begin
abbrev pub IsAnswerEnd : (status : ℕ) → (files : Named) → ReplayArguments → (journal image : List ℕ)
    → (session output : Option (List ℕ)) → (errors : Written) → Type 0
IsAnswerEnd status files a journal image session output errors =
    ((told : Option (List ℕ)) × HasSessionStatus status a.journal.now a.until journal image session output told
    errors.before errors.after) ⊎ ((status ≡ 1) × IsNotBegun files errors)

-- what the guest of a journal sent was shown, or a session was answered for it, if one is named
abbrev pub IsReplayEnd : (files : Named) → ReplayArguments → Option (Bor (List ℕ)) → (status : ℕ) → (journal image : List ℕ)
    → (input : Option (List ℕ)) → (output errors : Written) → Type 0
IsReplayEnd files a None status journal image input output errors =
    HasReplayStatus status a.journal.now a.until journal image output.before output.after errors.before errors.after
IsReplayEnd files a (Some name) status journal image input output errors =
    IsSessionEnd files a name.now status journal image input output.before errors

-- a replay of what was read of its files ended, or did not begin
abbrev pub IsReplayed : (files : Named) → ReplayArguments → (status : ℕ) → (journal image : List ℕ)
    → (input : Option (List ℕ)) → (output errors : Written) → Type 0
IsReplayed files a status journal image input output errors =
    IsReplayEnd files a a.script status journal image input output errors ⊎ ((status ≡ 1) × IsNotBegun files errors)

-- `replay` was given the files that it names
pub record HasReplayed (files : Named) (a : ReplayArguments) (status : ℕ) (input : Option (List ℕ)) (output errors : Written)
    : Type 0 where
  pub journal : List ℕ
  pub image : List ℕ
  pub journal_is : IsJournal (files a.journal.now) journal
  pub image_is : IsFileOrNone files a.image image
  pub ended : IsReplayEnd files a a.script status journal image input output errors

-- `replay` was given its files, or did not begin
abbrev pub ReplayEnded : (files : Named) → ReplayArguments → (status : ℕ) → (input : Option (List ℕ))
    → (output errors : Written) → Type 0
ReplayEnded files a status input output errors =
    HasReplayed files a status input output errors ⊎ ((status ≡ 1) × IsNotBegun files errors)

-- these are the bytes of files with these names, if they are known, all of which are left
abbrev pub AreGiven : (files : Named) → (names : List (Bor (List ℕ))) → (left : List (Option (List ℕ))) → Type 0
AreGiven files [] [] = ⊤
AreGiven files (n ∷ ns) (k ∷ ks) = IsOpened (files n.now) k × AreGiven files ns ks
AreGiven files names left = ⊥

-- these are the journals in the files with these names, in order
abbrev pub AreJournals : (files : Named) → (names : List (Bor (List ℕ))) → List JournalText → Type 0
AreJournals files names journals = AreTexts names (map (λ (n : Bor (List ℕ)). files n.now) names) journals

-- what an audit of journals writes: the order, if that is asked for, or else a summary
abbrev pub text_of : (order : Bool) → AuditText
text_of true = Order
text_of false = Summary

-- journals were audited, and the audit wrote after these bytes
abbrev pub AreAuditedTo : (status : ℕ) → List JournalText → (image : List ℕ) → AuditText → (before : Option (List ℕ))
    → (errors : Written) → Type 0
AreAuditedTo status journals image text before errors =
    (after : Option (List ℕ)) × HasAuditStatus status journals image text before after errors.before errors.after

-- what was read of the files was audited, or the audit did not begin
abbrev pub IsAuditEnd : (status : ℕ) → (files : Named) → List JournalText → (image : List ℕ) → AuditText
    → (before : Option (List ℕ)) → (errors : Written) → Type 0
IsAuditEnd status files journals image text before errors =
    AreAuditedTo status journals image text before errors ⊎ ((status ≡ 1) × IsNotBegun files errors)

-- journals were audited, and the audit wrote a chart to the file with this name
pub record AreDrawn (created : Named) (name : List ℕ) (status : ℕ) (journals : List JournalText) (image : List ℕ)
    (errors : Written) : Type 0 where
  pub held : Option (List ℕ)
  pub held_is : IsCreated (created name) held
  pub audited : AreAuditedTo status journals image Chart held errors

-- what was read of the files was audited and drawn, or the audit did not begin
abbrev pub IsDrawnEnd : (files created : Named) → (name : List ℕ) → (status : ℕ) → List JournalText → (image : List ℕ)
    → (errors : Written) → Type 0
IsDrawnEnd files created name status journals image errors =
    AreDrawn created name status journals image errors ⊎ ((status ≡ 1) × IsNotBegun files errors)

-- journals were audited, and the audit wrote the order or a summary after what the output held; or a chart to its file, if
-- one is named
abbrev pub AreShown : (created : Named) → AuditJournalsArguments → (chart : Option (Bor (List ℕ))) → (status : ℕ)
    → List JournalText → (image : List ℕ) → (output : Option (List ℕ)) → (errors : Written) → Type 0
AreShown created a None status journals image output errors =
    AreAuditedTo status journals image (text_of a.order) output errors
AreShown created a (Some name) status journals image output errors =
    AreDrawn created name.now status journals image errors

-- what was read of the files was audited and shown, or the audit did not begin
abbrev pub IsShownEnd : (files created : Named) → AuditJournalsArguments → (chart : Option (Bor (List ℕ))) → (status : ℕ)
    → List JournalText → (image : List ℕ) → (output : Option (List ℕ)) → (errors : Written) → Type 0
IsShownEnd files created a chart status journals image output errors =
    AreShown created a chart status journals image output errors ⊎ ((status ≡ 1) × IsNotBegun files errors)

-- `audit-journals` was given the files that it names
pub record HasAudited (files created : Named) (a : AuditJournalsArguments) (status : ℕ) (output : Option (List ℕ))
    (errors : Written) : Type 0 where
  pub journals : List JournalText
  pub image : List ℕ
  pub journals_are : AreJournals files a.journals.items journals
  pub image_is : IsFile (files a.image.now) image
  pub shown : AreShown created a a.chart status journals image output errors

-- `audit-journals` was given its files, or did not begin
abbrev pub JournalsEnded : (files created : Named) → AuditJournalsArguments → (status : ℕ) → (output : Option (List ℕ))
    → (errors : Written) → Type 0
JournalsEnded files created a status output errors =
    HasAudited files created a status output errors ⊎ ((status ≡ 1) × IsNotBegun files errors)

-- a session was answered for the guest of journals as it was after a turn, or not, and wrote to a buffer in front of the output
abbrev pub IsTurnsAnswer : ReplayTurnsArguments → (status : ℕ) → List JournalText → (image : List ℕ)
    → (session output : Option (List ℕ)) → (errors : Written) → Type 0
IsTurnsAnswer a status journals image session output errors =
    (told : Option (List ℕ)) × HasTurnStatus status journals image a.turns session output told errors.before errors.after

-- such a session, or it did not begin
abbrev pub IsTurnsAnswerEnd : (status : ℕ) → (files : Named) → ReplayTurnsArguments → List JournalText → (image : List ℕ)
    → (session output : Option (List ℕ)) → (errors : Written) → Type 0
IsTurnsAnswerEnd status files a journals image session output errors =
    IsTurnsAnswer a status journals image session output errors ⊎ ((status ≡ 1) × IsNotBegun files errors)

-- the session that is named was answered so
pub record IsTurnsEnd (files : Named) (a : ReplayTurnsArguments) (status : ℕ) (journals : List JournalText) (image : List ℕ)
    (input output : Option (List ℕ)) (errors : Written) : Type 0 where
  pub session : Option (List ℕ)
  pub session_is : IsSession files a.script.now input session
  pub answered : IsTurnsAnswer a status journals image session output errors

-- what was read of the files was replayed up to a turn, or the replay did not begin
abbrev pub AreTurnsMade : (files : Named) → ReplayTurnsArguments → (status : ℕ) → List JournalText → (image : List ℕ)
    → (input output : Option (List ℕ)) → (errors : Written) → Type 0
AreTurnsMade files a status journals image input output errors =
    IsTurnsEnd files a status journals image input output errors ⊎ ((status ≡ 1) × IsNotBegun files errors)

-- `replay --turns` was given the files that it names
pub record HaveMadeTurns (files : Named) (a : ReplayTurnsArguments) (status : ℕ) (input output : Option (List ℕ))
    (errors : Written) : Type 0 where
  pub journals : List JournalText
  pub image : List ℕ
  pub journals_are : AreJournals files a.journals.items journals
  pub image_is : IsFile (files a.image.now) image
  pub ended : IsTurnsEnd files a status journals image input output errors

-- `replay --turns` was given its files, or did not begin
abbrev pub TurnsEnded : (files : Named) → ReplayTurnsArguments → (status : ℕ) → (input output : Option (List ℕ))
    → (errors : Written) → Type 0
TurnsEnded files a status input output errors =
    HaveMadeTurns files a status input output errors ⊎ ((status ≡ 1) × IsNotBegun files errors)

-- what a command line asks for ended with this status
abbrev pub HasEnded : (files created : Named) → Arguments → (status : ℕ) → (script : Option (List ℕ))
    → (output errors : Written) → Type 0
HasEnded files created (Run a) status script output errors = RunEnded files created a status output errors
HasEnded files created (Live a) status script output errors = LiveEnded files a status output
HasEnded files created (Orders a) status script output errors = OrdersEnded files a status output errors
HasEnded files created (Asm a) status script output errors = AsmEnded files created a status errors
HasEnded files created (Dis a) status script output errors = DisEnded files a status output.before errors
HasEnded files created (Debug a) status script output errors = DebugEnded files a status script output.before errors
HasEnded files created (Script a) status script output errors = ScriptEnded files a status output.before errors
HasEnded files created (Move a) status script output errors = MoveEnded files a status output errors
HasEnded files created (Audit a) status script output errors = AuditEnded files a status output.before errors
HasEnded files created (Host a) status script output errors = HostEnded files a status output
HasEnded files created (Tell a) status script output errors = TellEnded status
HasEnded files created (Replay a) status script output errors = ReplayEnded files a status script output errors
HasEnded files created (ReplayTurns a) status script output errors = TurnsEnded files a status script output.before errors
HasEnded files created (AuditJournals a) status script output errors = JournalsEnded files created a status output.before errors

-- a command did not begin, since a file could not be opened or read, memory ran out, or a file has more bytes than it
-- may have; and that was reported
pub record IsUnbegun (files : Named) (a : Arguments) (status : ℕ) (errors : Written) : Type 0 where
  pub why : Refusal
  pub reason : IsUnread files a why
  pub told : IsTold (refused why) errors.before errors.after
  pub status_is : status ≡ 1

-- a text was to be written to the errors, and it is not known how much of it was written: errors that held nothing
-- would hold this text
abbrev pub ToTell : (Ends : (status : ℕ) → (errors : Written) → Type 0) → Type 0
ToTell Ends = (status : ℕ) × (text : List ℕ) × Ends status (written (Some []) (Some text))

-- a write to the errors failed: the report of how the command ended, or why it did not begin, is not complete
abbrev pub IsUntold : (files created : Named) → Arguments → (script : Option (List ℕ)) → (output : Written) → Type 0
IsUntold files created a script output =
    ToTell (λ status errors. HasEnded files created a status script output errors ⊎ IsUnbegun files a status errors)
