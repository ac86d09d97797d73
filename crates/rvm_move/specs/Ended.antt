-- How a move ended, as it is reported.
use Rattle.std.specs.Prelude.{◌≡◌, ◌⊎◌, ℕ, Bool, true, false, List, [], ◌++◌, Option, None, Some, Ok, codes}
use Rattle.std.specs.Io.KnownBytes.{Appends}
use Rattle.std.specs.List.{All}
use Rattle.rvm_arguments.specs.declared.arguments.MoveArguments.{MoveArguments}
use Rattle.rvm_arguments.specs.declared.arguments.StatusOf.{StatusOf}
use Rattle.rvm_arguments.specs.declared.arguments.StatusOf.TheVariants.{Command, Verdict}
use Rattle.rvm_recorder.specs.Closing.{close_refusal}
use Rattle.rvm_recorder.specs.declared.closing.CloseKind.{CloseKind}
use Rattle.rvm_command.specs.declared.refused.Refused.{Refused}
use Rattle.rvm_command.specs.declared.run.Ended.{Ended}
use Rattle.rvm_command.specs.declared.run.Ended.TheVariants.{HaltedWith}
use Rattle.rvm_command.specs.declared.run.Ended.TheVariants as run
use Rattle.rvm_command.specs.Command.{end_text, image_of}
use Rattle.rvm_command.specs.Ends.{IsLoadRefusal, run_status}
use Rattle.rvm_command.specs.Refusals.{IsTold, refused}
use Rattle.rvm_cell.specs.declared.harts.TurnsEnd.{TurnsEnd}
use Rattle.rvm_cell.specs.declared.harts.TurnsEnd.TheVariants.{Halted, StepsSpent}
use Rattle.rvm_recorder.specs.Entries.{PlainEntry}
use Rattle.rvm_recorder.specs.History.{History}
use Rattle.rvm_recorder.specs.Replay.{IsReplay}
use Rattle.rvm_move.specs.declared.ends.Ends.{Ends}
use Rattle.rvm_move.specs.Ends.{IsCopiedEnd, IsHeardEnd, TellsEnd, failure}
use Rattle.rvm_move.specs.Hosts.{IsAskedOfFirst, IsAskedOfSecond, IsFirstEnd, IsSecondEnd}
use Rattle.rvm_move.specs.Runs.{IsRunOf}
use Rattle.rvm_move.specs.Answers.{answers_text}
use Rattle.rvm_move.specs.Opening.{AreOpened}
use Rattle.rvm_move.specs.Plans.{plan_of}
use Rattle.rvm_refusal.specs.declared.refusal.Refusal.{Refusal}
use Rattle.rvm_refusal.specs.declared.refusal.Refusal.TheVariants as refusal
use Rattle.rvm_refusal.specs.Refusal.{text_of}
use Rattle.rvm_cell.specs.declared.end.WorkEnd.{WorkEnd}
use Rattle.rvm_cell.specs.declared.end.WorkEnd.TheVariants as e

-- the refusal of the list with which a worker ended, if it ended with one
abbrev pub refusal_of_end : WorkEnd → Option Refusal
refusal_of_end e.OutOfMemory = Some refusal.OutOfMemory
refusal_of_end (e.RecorderFull n) = Some refusal.RecorderFull
refusal_of_end e.OutOfRange = Some refusal.OutOfRange
refusal_of_end e.LinkFault = Some refusal.LinkFault
refusal_of_end e.BadFrame = Some refusal.BadFrame
refusal_of_end e.TooLong = Some refusal.TooLong
refusal_of_end e.Failed = Some refusal.Failed
refusal_of_end end = None

-- the words for an end that is no refusal of the list: the guest stopped, the system started no thread, or the worker
-- was stopped at its gate
abbrev pub words_of : WorkEnd → List ℕ
words_of e.GuestStopped = codes "guest stopped between hosts"
words_of e.NoThread = codes "no thread was had for the workers at the other host"
words_of end = codes "the gate let no further call pass"

-- the line of a refusal
abbrev pub line_of : Refusal → List ℕ
line_of r = text_of r ++ codes "\n"

-- the line of a refusal, if there is one, else a line of these words
abbrev pub line_or : Option Refusal → (words : List ℕ) → List ℕ
line_or (Some r) words = line_of r
line_or None words = words ++ codes "\n"

-- the line of a worker's end, if there is one, else the line of a host's fault, if there is one
abbrev pub line_first : Option WorkEnd → Option CloseKind → List ℕ
line_first (Some end) fault = line_or (refusal_of_end end) (words_of end)
line_first None (Some kind) = line_of (close_refusal kind)
line_first None None = []

-- the first of two faults, if there is one
abbrev pub first_fault : (a b : Option CloseKind) → Option CloseKind
first_fault (Some kind) b = Some kind
first_fault None b = b

-- the line with which a move failed: for the first worker that failed, else for the first host with a fault
abbrev pub failure_line : Ends → (a b : Option CloseKind) → List ℕ
failure_line ends a b = line_first (failure ends) (first_fault a b)

-- a text was to be written, and it is not known how much of it was: written to an empty writer, it would tell this
abbrev pub IsUntold : (Tells : (before after : Option (List ℕ)) → Type 0) → Type 0
IsUntold Tells = (text : List ℕ) × Tells (Some []) (Some text)

-- no worker failed, and both hosts were closed
abbrev pub IsSound : Ends → (a b : Option CloseKind) → Type 0
IsSound ends a b = (failure ends ≡ None) × (a ≡ None) × (b ≡ None)

-- how the turns of a guest that moved ended, in the terms of a run
abbrev pub ended_of : TurnsEnd → Ended
ended_of (Halted s) = HaltedWith s
ended_of StepsSpent = run.StepsSpent

-- what the status of a move tells of its end: a verdict, or that the command was done
abbrev pub status_asked : (verdict : Bool) → StatusOf
status_asked false = Command
status_asked true = Verdict

-- the line that tells how the turns ended, if a verdict was asked for
abbrev pub end_line : (verdict : Bool) → TurnsEnd → List ℕ
end_line false end = []
end_line true end = end_text (ended_of end) ++ codes "\n"

-- the status of a move whose turns ended so
abbrev pub move_status : (verdict : Bool) → TurnsEnd → ℕ
move_status verdict end = run_status (status_asked verdict) (ended_of end)

-- a move was sound, and the replies of both hosts were written, and after them how the turns ended, if that was asked
-- for; each reply is the protocol's
pub record IsToldOf (verdict : Bool) (status : ℕ) (ends : Ends) (a b : Option CloseKind) (first second : History)
    (before after : Option (List ℕ)) : Type 0 where
  pub sound : IsSound ends a b
  pub end : TurnsEnd
  pub turned : ends.harts ≡ Ok end
  pub status_is : status ≡ move_status verdict end
  pub first_replays : IsReplay first.opening first.entries
  pub second_replays : IsReplay second.opening second.entries
  pub written : Appends before after
      (answers_text first.entries ++ (answers_text second.entries ++ end_line verdict end))

-- what was asked of the two hosts of a move: of the first, its guest's turns, the guest's move to the second with the
-- policy that the arguments name, and frames from there; of the second, the guest's turns and frames from the first
pub record AreAsked (a : MoveArguments) (first second : List PlainEntry) : Type 0 where
  pub of_first : All (λ e. IsAskedOfFirst (plan_of a).policy e.event) first
  pub of_second : All (λ e. IsAskedOfSecond e.event) second

-- the journals of the two hosts tell how the workers ended that moved the guest
pub record AreWorked (ends : Ends) (first second : List PlainEntry) : Type 0 where
  pub copied : IsCopiedEnd ends.copier first
  pub heard_a : IsHeardEnd ends.receiver_a first
  pub heard_b : IsHeardEnd ends.receiver_b second

-- what stands in the journals of a move that did not fail: nothing else was asked; no worker failed, and the journals
-- tell how each ended; the first host replied that the move is over; the guest's turns, in the one journal or the
-- other, came to this end; and the output is all that drains took, the last of which found nothing
pub record IsMade (a : MoveArguments) (first second : List PlainEntry) (output_before output_after : Option (List ℕ))
    : Type 0 where
  pub asked : AreAsked a first second
  pub ends : Ends
  pub unfailed : failure ends ≡ None
  pub worked : AreWorked ends first second
  pub over : TellsEnd first
  pub end : TurnsEnd
  pub run : IsRunOf first second output_before output_after a.guest.harts a.steps (Ok end)

-- the guest of a file was moved between two hosts, the first of which began with it: the replies of both were written,
-- and after them how the turns ended, if that was asked for; each reply is the protocol's; the status is the one of
-- this end
pub record IsMoved (a : MoveArguments) (file : List ℕ) (status : ℕ)
    (before after output_before output_after : Option (List ℕ)) : Type 0 where
  pub first : History
  pub second : History
  pub opened : AreOpened a file first.opening second.opening
  pub first_replays : IsReplay first.opening first.entries
  pub second_replays : IsReplay second.opening second.entries
  pub made : IsMade a first.entries second.entries output_before output_after
  pub status_is : status ≡ move_status a.verdict made.end
  pub written : Appends before after
      (answers_text first.entries ++ (answers_text second.entries ++ end_line a.verdict made.end))

-- the two hosts of a move of a file, as the move left them: what was asked of each, and what its journal tells of the
-- ends of its workers
pub record AreLeft (a : MoveArguments) (file : List ℕ) (ends : Ends) (fault_a fault_b : Option CloseKind)
    (first second : History) : Type 0 where
  pub opened : AreOpened a file first.opening second.opening
  pub of_first : IsFirstEnd (plan_of a).policy ends fault_a first.entries
  pub of_second : IsSecondEnd ends fault_b second.entries

-- a move failed, and the replies of both hosts were written, and after them the line with which it failed; each reply
-- is the protocol's
pub record IsFailureOf (ends : Ends) (a b : Option CloseKind) (first second : History) (before after : Option (List ℕ))
    : Type 0 where
  pub failed : IsSound ends a b → ⊥
  pub first_replays : IsReplay first.opening first.entries
  pub second_replays : IsReplay second.opening second.entries
  pub told : Appends before after (answers_text first.entries ++ (answers_text second.entries ++ failure_line ends a b))

-- a move does not begin for this reason: for its file, or since there is no connection or no memory
abbrev pub IsMoveRefusal : MoveArguments → (file : List ℕ) → Refused → Type 0
IsMoveRefusal a file r =
    IsLoadRefusal (image_of a.guest.raw file) a.guest.pages r
    ⊎ ((r ≡ refused refusal.LinkFault) ⊎ (r ≡ refused refusal.OutOfMemory))

-- a move did not begin, and the reason was reported
pub record IsNotBegun (a : MoveArguments) (file : List ℕ) (before after : Option (List ℕ)) : Type 0 where
  pub why : Refused
  pub reason : IsMoveRefusal a file why
  pub told : IsTold why before after

-- this holds of the two hosts of a move, the first of which began with the guest of the file, as the move left them
pub record HoldsOfHosts (a : MoveArguments) (file : List ℕ)
    (Holds : Ends → (fault_a fault_b : Option CloseKind) → (first second : History) → Type 0) : Type 0 where
  pub ends : Ends
  pub fault_a : Option CloseKind
  pub fault_b : Option CloseKind
  pub first : History
  pub second : History
  pub left : AreLeft a file ends fault_a fault_b first second
  pub holds : Holds ends fault_a fault_b first second

-- a move of two hosts failed, the first of which began with the guest of the file, and it was reported how
abbrev pub IsFailed : MoveArguments → (file : List ℕ) → (before after : Option (List ℕ)) → Type 0
IsFailed a file before after =
    HoldsOfHosts a file (λ ends fault_a fault_b first second. IsFailureOf ends fault_a fault_b first second before after)

-- the move did not begin, or it failed
abbrev pub IsNotMoved : MoveArguments → (file : List ℕ) → (before after : Option (List ℕ)) → Type 0
IsNotMoved a file before after = IsNotBegun a file before after ⊎ IsFailed a file before after
