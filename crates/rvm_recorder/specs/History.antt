-- A journal and a recorder, as contracts see them.
use Rattle.std.specs.Prelude.{◌≡◌, ℕ, ◌+◌, ◌-◌, ◌<◌, ◌≤◌, Bool, true, false, List, [], ◌∷◌, ◌++◌, length, max, Option, Some, None}
use Rattle.rvm_host.specs.Hosts.{PlainHost, host_of}
use Rattle.rvm_frame.specs.declared.addressed.Addressed.{Addressed}
use Rattle.rvm_frame.specs.Grammar.{sent, spelling}
use Rattle.rvm_recorder.specs.Entries.{PlainEntry}
use Rattle.rvm_recorder.specs.Replay.{LawHost, Outcome, outcome_at, replay}
use Rattle.rvm_message.specs.declared.event.Command.TheVariants.{Board}
use Rattle.rvm_message.specs.declared.event.HostEvent.{HostEvent}
use Rattle.rvm_message.specs.declared.event.HostEvent.TheVariants.{Do}
use Rattle.rvm_message.specs.declared.reply.HostReply.{HostReply}
use Rattle.rvm_message.specs.Events.{event_of}
use Rattle.rvm_message.specs.Frames.{addressed_made}
use Rattle.rvm_message.specs.Replies.{reply_of}

-- a journal: the opening host, the entries, and for how many more there is room
pub record History : Type 0 where
  pub opening : PlainHost
  pub entries : List PlainEntry
  pub reserved : ℕ

-- a recorder: its journal, and how many entries the journal takes
pub record Recording : Type 0 where
  pub journal : History
  pub capacity : ℕ

-- the host that a journal leads to
abbrev pub host_now : Recording → LawHost
host_now r = replay r.journal.opening r.journal.entries

-- what the protocol says that an event does at that host
abbrev pub outcome_of : Recording → HostEvent → Outcome
outcome_of r e = outcome_at r.journal.opening (host_now r) (event_of e)

-- how many entries a journal has
abbrev pub count_of : Recording → ℕ
count_of r = length r.journal.entries

-- the recorder with these entries after its own, and room for this many more
abbrev pub with_entries : Recording → List PlainEntry → (reserved : ℕ) → Recording
with_entries r xs n =
    record r { journal = record r.journal { entries = r.journal.entries ++ xs; reserved = n } }

-- the recorder with room for at least this many more entries
abbrev pub with_room : Recording → (n : ℕ) → Recording
with_room r n = record r { journal = record r.journal { reserved = max r.journal.reserved n } }

-- the bytes of a frame that was made, if any
abbrev pub bytes_of : (version : ℕ) → Option Addressed → Option (List ℕ)
bytes_of version None = None
bytes_of version (Some a) = Some (spelling (sent version a))

-- an event was recorded at this place, with the reply and the frame that the protocol gives, and nothing else changed
pub record IsRecorded (old : Recording) (event : HostEvent) (answer : ℕ × HostReply × Option Addressed)
    (new : Recording) : Type 0 where
  pub place : answer.0 ≡ count_of old
  pub reply : reply_of answer.1 ≡ (outcome_of old event).reply
  pub frame : addressed_made answer.2 ≡ (outcome_of old event).made
  pub next : new ≡ with_entries old
      (record { event = event; reply = answer.1; frame = bytes_of old.journal.opening.version answer.2 } ∷ [])
      (old.journal.reserved - 1)
  pub room : count_of old < old.capacity

-- whether this is an event of the guest
abbrev pub is_board : HostEvent → Bool
is_board (Do (Board e)) = true
is_board e = false

-- the host is the one that its journal leads to, and the journal takes all entries for which room was made
pub record IsKept (host : PlainHost) (h : History) (capacity : ℕ) : Type 0 where
  pub numbers : host ≡ record h.opening { mode = host.mode; partner = host.partner }
  pub there : host_of host ≡ replay h.opening h.entries
  pub fits : length h.entries + h.reserved ≤ capacity
