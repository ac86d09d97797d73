-- How a replay of a journal ends.
use Rattle.std.specs.Prelude.{◌≡◌, ◌⊎◌, ℕ, zero, suc, List, [], ◌++◌, Option, Some, None, IsSomeAnd, Ok, Err, codes}
use Rattle.std.specs.Fmt.{decimal}
use Rattle.std.specs.Io.KnownBytes.{Appends}
use Rattle.rvm_board.specs.Guest.{Guest}
use Rattle.rvm_command.specs.Ends.{IsExtendedEndOf}
use Rattle.rvm_command.specs.Refusals.{IsTold, refused, refused_of_script}
use Rattle.rvm_debug.specs.declared.script.ScriptError.{ScriptError}
use Rattle.rvm_journal.specs.declared.header.Header.{Header}
use Rattle.rvm_journal.specs.Headers.{header_at}
use Rattle.rvm_protocol.specs.Modes.{guest_in}
use Rattle.rvm_recorder.specs.Entries.{PlainEntry}
use Rattle.rvm_recorder.specs.History.{Recording, count_of, host_now}
use Rattle.rvm_replay.specs.Behind.{most_replayed}
use Rattle.rvm_refusal.specs.declared.refusal.Refusal.TheVariants.{LinkFault}
use Rattle.rvm_replay.specs.declared.file.FileFault.{FileFault}
use Rattle.rvm_replay.specs.Consoles.{console_of}
use Rattle.rvm_replay.specs.FileFaults.{IsFileFault, fault_line}
use Rattle.rvm_replay.specs.Journals.{IsHostAfter}

-- the guest that is at a host after what it recorded, if one is
abbrev pub guest_after : Recording → Option Guest
guest_after r = guest_in (host_now r).mode

-- the host of a journal did again what is wanted of what the journal tells
pub record IsReplay (most : Option ℕ) (journal image : List ℕ) (r : Recording) : Type 0 where
  pub header : Header
  pub header_is : header_at journal ≡ Some header
  pub host : IsHostAfter most header journal image r

-- so it is where this guest is at the host then, or none, the host did `count` events, and an observer was shown what it
-- answered
pub record IsDone {O : Type 0} (shows : O → List PlainEntry → Type 0) (most : Option ℕ) (journal image : List ℕ)
    (guest : Option Guest) (count : ℕ) (observer : O) : Type 0 where
  pub recording : Recording
  pub replay : IsReplay most journal image recording
  pub guest_is : guest ≡ guest_after recording
  pub count_is : count ≡ count_of recording
  pub shown : shows observer recording.journal.entries

-- a journal was refused, which was reported
pub record IsRefused (name : List ℕ) (most : Option ℕ) (journal image : List ℕ) (before after : Option (List ℕ)) : Type 0 where
  pub why : FileFault
  pub fault : IsFileFault why most most_replayed (header_at journal) journal image
  pub reported : Appends before after (fault_line name why)

-- the line that reports how many events were replayed
abbrev pub replayed_line : (count : ℕ) → List ℕ
replayed_line n = codes "replayed " ++ decimal n ++ codes " events" ++ codes "\n"

-- these bytes were written, and it was reported how many events there were
pub record IsShown (bytes : List ℕ) (count : ℕ) (before after errors_before errors_after : Option (List ℕ)) : Type 0 where
  pub shown : Appends before after bytes
  pub counted : Appends errors_before errors_after (replayed_line count)

-- the host of a journal did again what is wanted, what its guest sent was written, and how many events there were was
-- reported
pub record IsShownAgain (most : Option ℕ) (journal image : List ℕ)
    (before after errors_before errors_after : Option (List ℕ)) : Type 0 where
  pub recording : Recording
  pub replay : IsReplay most journal image recording
  pub shown : IsShown (console_of recording.journal.entries) (count_of recording) before after errors_before errors_after

-- the host of a journal did again what is wanted, and what its guest sent could not be written, which was reported
pub record IsUnwritten (most : Option ℕ) (journal image : List ℕ) (errors_before errors_after : Option (List ℕ)) : Type 0 where
  pub recording : Recording
  pub replay : IsReplay most journal image recording
  pub reported : IsTold (refused LinkFault) errors_before errors_after

-- why what the guest of a journal sent was not shown: the journal was refused, and nothing was written, or a write failed
abbrev pub IsNotShown : (name : List ℕ) → (most : Option ℕ) → (journal image : List ℕ)
    → (before after errors_before errors_after : Option (List ℕ)) → Type 0
IsNotShown name most journal image before after errors_before errors_after =
    (IsRefused name most journal image errors_before errors_after × (after ≡ before))
    ⊎ IsUnwritten most journal image errors_before errors_after

-- a session was answered to its end for the guest that is at a host
abbrev pub IsAnswered : Option Guest → (session before after : Option (List ℕ)) → Type 0
IsAnswered guest session before after = IsSomeAnd guest (λ g. IsExtendedEndOf session g (Ok tt) before after)

-- a session was refused for a guest, which was reported
pub record IsSessionRefused (guest : Guest) (session before after errors_before errors_after : Option (List ℕ)) : Type 0 where
  pub why : ScriptError
  pub ended : IsExtendedEndOf session guest (Err why) before after
  pub reported : IsTold (refused_of_script why) errors_before errors_after

-- the line that reports that no guest is at a host
abbrev pub no_guest_line : (name : List ℕ) → (count : ℕ) → List ℕ
no_guest_line name n = name ++ codes ": no guest is here after " ++ decimal n ++ codes " events" ++ codes "\n"

-- why a session was not answered to its end after this many events: no guest is there, and nothing was written, or a line of
-- the session was refused, or a read or a write failed
abbrev pub IsUnanswered : (name : List ℕ) → Option Guest → (count : ℕ)
    → (session before after errors_before errors_after : Option (List ℕ)) → Type 0
IsUnanswered name None n session before after errors_before errors_after =
    (after ≡ before) × Appends errors_before errors_after (no_guest_line name n)
IsUnanswered name (Some g) n session before after errors_before errors_after =
    IsSessionRefused g session before after errors_before errors_after

-- the host of a journal did again what is wanted, and a session was answered for its guest, to the end of the session
pub record HasAnswered (most : Option ℕ) (journal image : List ℕ) (session before after : Option (List ℕ)) : Type 0 where
  pub recording : Recording
  pub replay : IsReplay most journal image recording
  pub answered : IsAnswered (guest_after recording) session before after

-- the host of a journal did again what is wanted, and a session was not answered to its end
pub record HasNotAnswered (name : List ℕ) (most : Option ℕ) (journal image : List ℕ)
    (session before after errors_before errors_after : Option (List ℕ)) : Type 0 where
  pub recording : Recording
  pub replay : IsReplay most journal image recording
  pub unanswered : IsUnanswered name (guest_after recording) (count_of recording) session before after errors_before errors_after

-- why no session was answered to its end: the journal was refused, and nothing was written, or the session was not answered
abbrev pub IsNoSession : (name : List ℕ) → (most : Option ℕ) → (journal image : List ℕ)
    → (session before after errors_before errors_after : Option (List ℕ)) → Type 0
IsNoSession name most journal image session before after errors_before errors_after =
    (IsRefused name most journal image errors_before errors_after × (after ≡ before))
    ⊎ HasNotAnswered name most journal image session before after errors_before errors_after

-- by its status, these bytes were written, or that failed, and that was reported
abbrev pub HasShownStatus : (status : ℕ) → (bytes : List ℕ) → (count : ℕ)
    → (before after errors_before errors_after : Option (List ℕ)) → Type 0
HasShownStatus zero bytes n before after errors_before errors_after = IsShown bytes n before after errors_before errors_after
HasShownStatus (suc zero) bytes n before after errors_before errors_after =
    IsTold (refused LinkFault) errors_before errors_after
HasShownStatus (suc (suc k)) bytes n before after errors_before errors_after = ⊥

-- by its status, how a replay ended that shows what the guest sent
abbrev pub HasReplayStatus : (status : ℕ) → (name : List ℕ) → (most : Option ℕ) → (journal image : List ℕ)
    → (before after errors_before errors_after : Option (List ℕ)) → Type 0
HasReplayStatus zero name most journal image before after errors_before errors_after =
    IsShownAgain most journal image before after errors_before errors_after
HasReplayStatus (suc zero) name most journal image before after errors_before errors_after =
    IsNotShown name most journal image before after errors_before errors_after
HasReplayStatus (suc (suc n)) name most journal image before after errors_before errors_after = ⊥

-- by its status, a session was answered for the guest that is at a host, or not
abbrev pub HasAnswerStatus : (status : ℕ) → (name : List ℕ) → Option Guest → (count : ℕ)
    → (session before after errors_before errors_after : Option (List ℕ)) → Type 0
HasAnswerStatus zero name guest n session before after errors_before errors_after =
    IsAnswered guest session before after × (errors_after ≡ errors_before)
HasAnswerStatus (suc zero) name guest n session before after errors_before errors_after =
    IsUnanswered name guest n session before after errors_before errors_after
HasAnswerStatus (suc (suc k)) name guest n session before after errors_before errors_after = ⊥

-- by its status, how a replay ended that hands its guest to a session of the debugger
abbrev pub HasSessionStatus : (status : ℕ) → (name : List ℕ) → (most : Option ℕ) → (journal image : List ℕ)
    → (session before after errors_before errors_after : Option (List ℕ)) → Type 0
HasSessionStatus zero name most journal image session before after errors_before errors_after =
    HasAnswered most journal image session before after × (errors_after ≡ errors_before)
HasSessionStatus (suc zero) name most journal image session before after errors_before errors_after =
    IsNoSession name most journal image session before after errors_before errors_after
HasSessionStatus (suc (suc n)) name most journal image session before after errors_before errors_after = ⊥

-- a text was to be reported, and it is not known how much of it was: errors that held nothing would hold this text
abbrev pub IsUntold : (Ends : (status : ℕ) → (errors_before errors_after : Option (List ℕ)) → Type 0) → Type 0
IsUntold Ends = (status : ℕ) × (report : List ℕ) × Ends status (Some []) (Some report)
