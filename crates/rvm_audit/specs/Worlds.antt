-- Orders as runs of the protocol.
use Rattle.std.specs.Prelude.{◌≡◌, ℕ, ◌<◌, ◌==◌, ◌&&◌, ◌||◌, Bool, true, if◌then◌else◌, List, [], ◌∷◌, map, Some, None}
use Rattle.rvm_host.specs.Hosts.{new_host}
use Rattle.rvm_board.specs.Guest.{Guest, GuestState}
use Rattle.rvm_guest.specs.TheGuest.{board}
use Rattle.rvm_recorder.specs.Entries.{PlainEntry}
use Rattle.rvm_recorder.specs.History.{is_board}
use Rattle.rvm_recorder.specs.Replay.{replay}
use Rattle.rvm_message.specs.Events.{event_of}
use Rattle.rvm_message.specs.Replies.{reply_of}
use Rattle.rvm_protocol.specs.Course.{InEachState, NeverMoves, PastIsTrue}
use Rattle.rvm_protocol.specs.NeverMoving.{accepted, answered, is_answer}
use Rattle.rvm_protocol.specs.Told.{at_start}
use Rattle.rvm_protocol.specs.World.{history, run}
use Rattle.rvm_core.specs.declared.event.Event.{Event}
use Rattle.rvm_core.specs.NeverMoved.{BoardEntry}
use Rattle.rvm_core.specs.Worlds.{BoardWorld, meant}
use Rattle.rvm_audit.specs.Hosts.{HostEntry, Openings, cons_if, entries_at}
use Rattle.rvm_audit.specs.Orders.{Journals}

-- it is known which of this many hosts a frame goes to: there are two, or streams of this version name hosts
abbrev pub knows_hosts : (version count : ℕ) → Bool
knows_hosts version count = count == 2 || version == 3

-- the hosts of a new world: the guest is at the origin
pub record AreNew (version origin : ℕ) (g : GuestState) (limits : ℕ → ℕ) (openings : Openings) : Type 0 where
  pub spoken : knows_hosts version openings.count ≡ true
  pub each : (x : ℕ) → x < openings.count
      → openings.host x ≡ new_host (if x == origin then Some g else None) x openings.count (limits x) version

-- an entry of a host, as it is seen in a world
abbrev pub seen : HostEntry → BoardEntry
seen s = record { host = s.0; event = event_of s.1.event; reply = reply_of s.1.reply }

-- in this world the events make the entries of the journals, and it ends where their replays end; in each of its states
-- the guest, which was g, is the guest of one board that never moves, and the frames are those of its moves, each after
-- its cause
pub record IsWorldRun (w : BoardWorld) (origin : ℕ) (g : Guest) (j : Journals) (events : List Event) : Type 0 where
  pub sequence : List HostEntry
  pub entries : (x : ℕ) → x < j.openings.count → entries_at x sequence ≡ j.entries x
  pub seen_are : history board w (map meant events) ≡ map seen sequence
  pub ends : (x : ℕ) → x < j.openings.count
      → (run board w (map meant events)).hosts x ≡ replay (j.openings.host x) (j.entries x)
  pub never_moved : NeverMoves board (at_start origin g) w (map meant events)
  pub past : InEachState board (PastIsTrue board) w (map meant events)

-- an entry is of an event of the guest that was answered
abbrev pub is_accepted : PlainEntry → Bool
is_accepted n = is_board n.event && is_answer (reply_of n.reply)

-- the entries of a sequence that are of answered events of the guest
abbrev pub accepted_entries : List HostEntry → List HostEntry
accepted_entries [] = []
accepted_entries (s ∷ ss) = cons_if (is_accepted s.1) s (accepted_entries ss)

-- two runs from a world gave the guest the same events in the same order, and it gave the same answers
pub record AreOneHistory (w : BoardWorld) (events others : List Event) : Type 0 where
  pub events_are : accepted (history board w (map meant events)) ≡ accepted (history board w (map meant others))
  pub answers_are : answered (history board w (map meant events)) ≡ answered (history board w (map meant others))
