-- Interleavings and orders of the journals of any number of hosts.
use Rattle.std.specs.Prelude.{◌≡◌, ◌⊎◌, ℕ, ◌<◌, ◌≤◌, Bool, true, List, [], Some, slice_get, length, take}
use Rattle.rvm_frame.specs.declared.frame.Frame.{Frame}
use Rattle.rvm_recorder.specs.Entries.{PlainEntry}
use Rattle.rvm_recorder.specs.Replay.{IsReplay, replay}
use Rattle.rvm_message.specs.declared.event.HostEvent.TheVariants.{Came}
use Rattle.rvm_protocol.specs.Host.{is_there}
use Rattle.rvm_core.specs.declared.event.Event.{Event}
use Rattle.rvm_audit.specs.Hosts.{AllFollow, HasBytes, HostEntry, IsRun, Openings, after_all, entries_at, opened}

-- the journals of a world: its opening hosts, and the entries of each by its number
pub record Journals : Type 0 where
  pub openings : Openings
  pub entries : ℕ → List PlainEntry

-- the entries of all hosts, each of which acted by itself, in one sequence in which each frame that came was made
-- before
pub record IsInterleaving (j : Journals) (sequence : List HostEntry) : Type 0 where
  pub replays : (x : ℕ) → x < j.openings.count → IsReplay (j.openings.host x) (j.entries x)
  pub entries : (x : ℕ) → x < j.openings.count → entries_at x sequence ≡ j.entries x
  pub follow : AllFollow j.openings [] sequence

-- a run from the opening hosts whose events at each host are the entries of its journal, with their replies and frames,
-- and which ends where their replays end
pub record IsOrder (j : Journals) (events : List Event) : Type 0 where
  pub sequence : List HostEntry
  pub run : IsRun j.openings (opened j.openings) events sequence
  pub entries : (x : ℕ) → x < j.openings.count → entries_at x sequence ≡ j.entries x
  pub ends : (x : ℕ) → x < j.openings.count
      → (after_all j.openings (opened j.openings) sequence).host x ≡ replay (j.openings.host x) (j.entries x)

-- the journals up to these places: of host x, its first `places x` entries
abbrev pub cut : (places : ℕ → ℕ) → Journals → Journals
cut places j = record { openings = j.openings; entries = λ x. take (places x) (j.entries x) }

-- one of the first `count` entries made a frame of these bytes
pub record MadeBelow (entries : List PlainEntry) (count : ℕ) (bytes : List ℕ) : Type 0 where
  pub place : ℕ
  pub entry : PlainEntry
  pub below : place < count
  pub stands : slice_get entries place ≡ Some entry
  pub made : entry.frame ≡ Some bytes

-- host x's entry at its place is that a frame came, and the frame is of no other host, or that host made none of its
-- bytes before its own place
pub record CameUnmade (j : Journals) (places : ℕ → ℕ) (x : ℕ) : Type 0 where
  pub entry : PlainEntry
  pub from : ℕ
  pub frame : Frame
  pub stands : slice_get (j.entries x) (places x) ≡ Some entry
  pub came : entry.event ≡ Came from frame
  pub unmade : (bytes : List ℕ) → is_there x j.openings.count from ≡ true
      → HasBytes (j.openings.host x).version from x frame bytes → MadeBelow (j.entries from) (places from) bytes → ⊥

-- a host is stuck: it has no next entry, or one that cannot stand
abbrev pub IsStuck : (j : Journals) → (places : ℕ → ℕ) → ℕ → Type 0
IsStuck j places x = (places x ≡ length (j.entries x)) ⊎ CameUnmade j places x

-- no journal can go on from these places, and one of them is not at its end
pub record IsDeadEnd (j : Journals) (places : ℕ → ℕ) : Type 0 where
  pub within : (x : ℕ) → x < j.openings.count → places x ≤ length (j.entries x)
  pub rest : (x : ℕ) × (x < j.openings.count) × (places x < length (j.entries x))
  pub stuck : (x : ℕ) → x < j.openings.count → IsStuck j places x

-- these hosts wait only for one another: if the next entry of one of them is a frame that came from another host, that
-- is one of them
abbrev pub IsClosed : (j : Journals) → (places : ℕ → ℕ) → (members : ℕ → Bool) → Type 0
IsClosed j places members =
    (x from : ℕ) (frame : Frame) (n : PlainEntry) (bytes : List ℕ) → x < j.openings.count → members x ≡ true
    → slice_get (j.entries x) (places x) ≡ Some n → n.event ≡ Came from frame
    → is_there x j.openings.count from ≡ true → HasBytes (j.openings.host x).version from x frame bytes
    → members from ≡ true
