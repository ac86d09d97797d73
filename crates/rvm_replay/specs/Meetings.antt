-- What journals tell of the hosts that were met, beside the journals of these hosts.
use Rattle.std.specs.Prelude.{◌≡◌, ◌≢◌, ◌⊎◌, ⊤, ℕ, ◌<◌, List, length, slice_get, Option, Some, None}
use Rattle.rvm_debug.specs.Words.{lines}
use Rattle.rvm_journal.specs.declared.header.Header.{Header}
use Rattle.rvm_journal.specs.Meetings.{AllMeetings, meetings_in}
use Rattle.rvm_station.specs.declared.log.Meeting.{Meeting}
use Rattle.rvm_replay.specs.Journals.{JournalText, header_number}

-- a header is that of another host than the one that was met, or tells the process that was met
abbrev pub IsProcess : Meeting → Option Header → Type 0
IsProcess m None = ⊤
IsProcess m (Some h) = h.host ≡ m.host → h.process ≡ m.process

-- a header is that of the host that was met, and tells another process
abbrev pub IsOtherProcess : Meeting → Option Header → Type 0
IsOtherProcess m None = ⊥
IsOtherProcess m (Some h) = (h.host ≡ m.host) × (h.process ≢ m.process)

-- the first n journals tell no other process of the host that was met
abbrev pub HaveProcess : List JournalText → Meeting → (n : ℕ) → Type 0
HaveProcess files m n = (i : ℕ) → i < n → IsProcess m (header_number files i)

-- some journal tells another process of the host that was met
abbrev pub HasOtherProcess : List JournalText → Meeting → Type 0
HasOtherProcess files m = (i : ℕ) × IsOtherProcess m (header_number files i)

-- a meeting agrees with these journals, of hosts of the world with this number; 0 is that of no world
pub record Agrees (files : List JournalText) (world : ℕ) (m : Meeting) : Type 0 where
  pub process : HaveProcess files m (length files)
  pub world_is : (m.world ≡ 0) ⊎ (m.world ≡ world)

-- the meetings that a journal tells agree with all journals
abbrev pub HasMet : List JournalText → (world : ℕ) → Option JournalText → Type 0
HasMet files world None = ⊤
HasMet files world (Some f) = AllMeetings (Agrees files world) (meetings_in (lines f.text))

-- so do those that the first n journals tell
abbrev pub HaveMet : List JournalText → (n world : ℕ) → Type 0
HaveMet files n world = (index : ℕ) → index < n → HasMet files world (slice_get files index)
