-- What happened at hosts, each by itself, as events of a world: which events, and where they lead.
use Rattle.std.proofs.Common.{◌≡◌, ◌∙◌, ℕ, suc, ◌<◌, ◌==◌, Bool, true, false, if◌then◌else◌, List, [], ◌∷◌, ◌++◌, map, Some, None, refl, sym, ap, inl, inr}
use Rattle.std.specs.List.{fold}
use Rattle.std.specs.Prelude.{slice_get}
use Rattle.std.proofs.lemmas.Bool.{eqb-true, lt-ltb}
use Rattle.rvm_board.specs.declared.event.BoardEvent.{BoardEvent}
use Rattle.rvm_board.specs.Guest.{Guest}
use Rattle.rvm_guest.specs.TheGuest.{board}
use Rattle.rvm_audit.specs.Hosts.{cons_if}
use Rattle.rvm_message.specs.Events.{BoardHostEvent}
use Rattle.rvm_protocol.specs.Commands.{Came, Do}
use Rattle.rvm_protocol.specs.Host.{Host, host_step}
use Rattle.rvm_protocol.specs.World.{At, Deliver, Event, Has, entry_of, frame_for, happened, history, meaning, result_at, run, world_at}
use Rattle.rvm_core.specs.Worlds.{BoardWorld}
use Rattle.rvm_host_command.specs.Processes.{AllMayHappen, CameSent, ProcessEvent, events_at, what_happened}

-- WHICH EVENTS

-- what is in a list has a place there
has_place : {X : Type 0} (xs : List X) (x : X) → Has xs x → (k : ℕ) × (slice_get xs k ≡ Some x)
unfolding Has
has_place [] x h = absurd h
has_place (y ∷ xs) x (inl is) = (0, ap Some is)
has_place (y ∷ xs) x (inr h) = let rest = has_place xs x h in (suc rest.0, rest.1)

-- what may happen at a host is an event of the world
event_for : (w : BoardWorld) (x : ℕ) (e : BoardHostEvent) → x < w.count → CameSent w x e
    → (ev : Event BoardEvent) × (meaning board w ev ≡ Some (x, e))
event_for w x (Do c) there was_sent =
    (At x c, ap (λ (b : Bool). if b then Some (x, Do c) else None) (lt-ltb x w.count there))
event_for w x (Came from frame) there was_sent =
    let place = has_place w.sent (record { from = from; to = x; frame = frame }) was_sent in
    (Deliver place.0, ap (frame_for board) place.1)

-- the world after all of them
abbrev pub world_after : BoardWorld → List ProcessEvent → BoardWorld
world_after w [] = w
world_after w (s ∷ ss) = world_after (world_at board w s.0 s.1) ss

-- events of a world of which just these are seen
pub record AreEvents (w : BoardWorld) (ss : List ProcessEvent) : Type 0 where
  pub events : List (Event BoardEvent)
  pub seen : map what_happened (history board w events) ≡ ss
  pub lead : run board w events ≡ world_after w ss

pub are_events : (ss : List ProcessEvent) (w : BoardWorld) → AllMayHappen w ss → AreEvents w ss
unfolding history run
are_events [] w all = record { events = []; seen = refl; lead = refl }
are_events ((x, e) ∷ ss) w all =
    let one = event_for w x e all.0.there all.0.sent in
    let rest = are_events ss (world_at board w x e) all.1 in
    record {
      events = one.0 ∷ rest.events;
      seen =
          ap (λ q. map what_happened (entry_of board w q ++ history board (happened board w q) rest.events)) one.1
          ∙ ap (λ es. (x, e) ∷ es) rest.seen;
      lead = ap (λ q. run board (happened board w q) rest.events) one.1 ∙ rest.lead;
    }

-- WHERE THEY LEAD

-- host x of a world after an event there
abbrev pub next_in : BoardWorld → (x : ℕ) → Host Guest (List ℕ) → BoardHostEvent → Host Guest (List ℕ)
next_in w x h e = (host_step board w.version x w.count (w.limits x) e h).next

-- an event at host y, seen from host x
one_event : (w : BoardWorld) (x y : ℕ) (e : BoardHostEvent) (es : List BoardHostEvent) (b : Bool)
    → (b ≡ true → x ≡ y)
    → fold (next_in w x) (if b then (result_at board w y e).next else w.hosts x) es
    ≡ fold (next_in w x) (w.hosts x) (cons_if b e es)
one_event w x y e es true is = ap (λ z. fold (next_in w x) (result_at board w z e).next es) (sym (is refl))
one_event w x y e es false is = refl

-- each host is where its own events lead
pub host_after : (x : ℕ) (ss : List ProcessEvent) (w : BoardWorld)
    → (world_after w ss).hosts x ≡ fold (next_in w x) (w.hosts x) (events_at x ss)
host_after x [] w = refl
host_after x ((y, e) ∷ ss) w =
    host_after x ss (world_at board w y e) ∙ one_event w x y e (events_at x ss) (x == y) (eqb-true x y)
