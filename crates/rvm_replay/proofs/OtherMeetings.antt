-- Meetings that do not agree with journals.
use Rattle.std.proofs.Common.{◌≡◌, ℕ, ◌+◌, ◌<◌, ◌≤◌, List, [], ◌∷◌, Some, drop, get_or, length}
use Rattle.std.proofs.lemmas.List.{at_drop_all, at_drop_more}
use Rattle.std.specs.Prelude.{slice_get}
use Rattle.rvm_debug.specs.Words.{lines}
use Rattle.rvm_journal.specs.declared.header.Header.{Header}
use Rattle.rvm_journal.specs.Meetings.{SomeMeeting, meetings_in}
use Rattle.rvm_station.specs.declared.log.Meeting.{Meeting}
use Rattle.rvm_replay.specs.declared.file.FileFault.{FileFault}
use Rattle.rvm_replay.specs.Audited.{AreOfOneWorld}
use Rattle.rvm_replay.specs.Journals.{JournalText, headers_in}
use Rattle.rvm_replay.specs.Unaudited.{HasMetOther, IsOtherMeeting}

-- a fault of a meeting is one of its journal
pub met_other : (files : List JournalText) (i hosts : ℕ) (o : Header) (file : JournalText) (why : FileFault)
    → AreOfOneWorld (headers_in files) hosts o → slice_get files i ≡ Some file
    → SomeMeeting (IsOtherMeeting files o why) (meetings_in (lines file.text)) → HasMetOther files i why
met_other files i hosts o file why world is some =
    record { hosts = hosts; opening = o; file = file; one_world = world; file_is = is; differs = some }

-- the next meeting, and those after it
pub next_meeting : (ms : List Meeting) (i : ℕ) (d : Meeting) → i < length ms → drop i ms ≡ get_or ms i d ∷ drop (i + 1) ms
next_meeting ms i d less = at_drop_more (λ l. l) ms i d less

-- what stands for a meeting that is not there
abbrev pub blank : Meeting
blank = record { host = 0; process = 0; world = 0 }

-- no meeting is left
pub no_meeting : (ms : List Meeting) (i : ℕ) → length ms ≤ i → drop i ms ≡ []
no_meeting ms i all = at_drop_all (λ l. l) ms i all
