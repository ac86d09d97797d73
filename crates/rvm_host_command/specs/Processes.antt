-- What happened at host processes, each by itself, and the one world of which they are the hosts.
use Rattle.std.specs.Prelude.{◌≡◌, ℕ, ◌<◌, ◌==◌, List, [], ◌∷◌, map}
use Rattle.rvm_host.specs.Hosts.{PlainHost, host_of}
use Rattle.rvm_board.specs.declared.event.BoardEvent.{BoardEvent}
use Rattle.rvm_board.specs.Guest.{Guest}
use Rattle.rvm_guest.specs.TheGuest.{board}
use Rattle.rvm_station.specs.Events.{IsReached}
use Rattle.rvm_audit.specs.Hosts.{Openings, cons_if}
use Rattle.rvm_message.specs.Events.{BoardHostEvent}
use Rattle.rvm_protocol.specs.Commands.{Came, Do}
use Rattle.rvm_protocol.specs.Course.{InEachState, NeverMoves, PastIsTrue}
use Rattle.rvm_protocol.specs.Told.{at_start}
use Rattle.rvm_protocol.specs.World as protocol
use Rattle.rvm_protocol.specs.World.{Has, history, run, world_at}
use Rattle.rvm_core.specs.NeverMoved.{BoardEntry}
use Rattle.rvm_core.specs.Worlds.{BoardWorld}

-- the number of a host, and an event that happened at its process
abbrev pub ProcessEvent : Type 0
ProcessEvent = ℕ × BoardHostEvent

-- the events that happened at host x, in order
abbrev pub events_at : (x : ℕ) → List ProcessEvent → List BoardHostEvent
events_at x [] = []
events_at x (s ∷ ss) = cons_if (x == s.0) s.1 (events_at x ss)

-- if an event of host x is that a frame came, host `from` had sent it to host x
abbrev pub CameSent : BoardWorld → (x : ℕ) → BoardHostEvent → Type 0
CameSent w x (Do command) = Unit {0}
CameSent w x (Came from frame) = Has w.sent (record { from = from; to = x; frame = frame })

-- an event may happen in a world: its host is there, and if it is that a frame came, the frame was sent
pub record MayHappen (w : BoardWorld) (s : ProcessEvent) : Type 0 where
  pub there : s.0 < w.count
  pub sent : CameSent w s.0 s.1

-- each event may happen after those before it
abbrev pub AllMayHappen : BoardWorld → List ProcessEvent → Type 0
AllMayHappen w [] = Unit {0}
AllMayHappen w (s ∷ ss) = MayHappen w s × AllMayHappen (world_at board w s.0 s.1) ss

-- events led the opening hosts to these hosts, and this is a sequence of all these events, in which each frame that
-- came had been sent before
pub record AreProcesses (start : BoardWorld) (openings : Openings) (now : ℕ → PlainHost) (sequence : List ProcessEvent)
    : Type 0 where
  pub reached : (x : ℕ) → x < openings.count → (r : IsReached (openings.host x) (now x)) × (events_at x sequence ≡ r.events)
  pub happen : AllMayHappen start sequence

-- the number of the host and the event of an entry that was seen in a world
abbrev pub what_happened : BoardEntry → ProcessEvent
what_happened n = (n.host, n.event)

-- these hosts are those of the world after some events, in which this sequence was seen; in each state of that run the
-- guest, which was g, is the guest of one board that never moves, and the frames are those of its moves, each after its
-- cause
pub record AreOneWorld (w : BoardWorld) (origin : ℕ) (g : Guest) (now : ℕ → PlainHost) (sequence : List ProcessEvent)
    : Type 0 where
  pub events : List (protocol.Event BoardEvent)
  pub seen : map what_happened (history board w events) ≡ sequence
  pub ends : (x : ℕ) → x < w.count → (run board w events).hosts x ≡ host_of (now x)
  pub never_moved : NeverMoves board (at_start origin g) w events
  pub past : InEachState board (PastIsTrue board) w events
