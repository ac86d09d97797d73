-- Runs of any number of hosts that send each other frames.
use Rattle.std.specs.Prelude.{◌≡◌, ℕ, ◌<◌, ◌==◌, Bool, true, false, List, [], ◌∷◌, ◌++◌, Option, Some, None, slice_get}
use Rattle.rvm_host.specs.Hosts.{PlainHost, host_of}
use Rattle.rvm_frame.specs.declared.addressed.Addressed.{Addressed}
use Rattle.rvm_frame.specs.declared.frame.Frame.{Frame}
use Rattle.rvm_frame.specs.Grammar.{HasSpelling, sent, spelling}
use Rattle.rvm_recorder.specs.Entries.{PlainEntry}
use Rattle.rvm_recorder.specs.Replay.{IsAnswered, LawHost, Outcome, outcome_at}
use Rattle.rvm_message.specs.declared.event.HostEvent.{HostEvent}
use Rattle.rvm_message.specs.declared.event.HostEvent.TheVariants.{Do, Came}
use Rattle.rvm_message.specs.Events.{event_of}
use Rattle.rvm_protocol.specs.Host.{is_there}
use Rattle.rvm_protocol.specs.Pages.{put}
use Rattle.rvm_core.specs.declared.event.Event.{Event}
use Rattle.rvm_core.specs.declared.event.Event.TheVariants.{At, Deliver}

-- the opening hosts by number, and how many there are
pub record Openings : Type 0 where
  pub count : ℕ
  pub host : ℕ → PlainHost

-- the number of the host that made a frame, and the bytes of the frame
abbrev pub Made : Type 0
Made = ℕ × List ℕ

-- the number of a host, and one of its entries
abbrev pub HostEntry : Type 0
HostEntry = ℕ × PlainEntry

-- the hosts by number, and the frames that were made, oldest first
pub record Hosts : Type 0 where
  pub host : ℕ → LawHost
  pub made : List Made

-- a frame that comes from one host to another
abbrev pub coming : (from to : ℕ) → Frame → Addressed
coming from to frame = record { from = from; to = to; frame = frame }

-- these are the bytes of a frame that comes, in a stream of this version
pub record HasBytes (version from to : ℕ) (frame : Frame) (bytes : List ℕ) : Type 0 where
  pub spelled : HasSpelling (sent version (coming from to frame))
  pub bytes_are : bytes ≡ spelling (sent version (coming from to frame))

-- the number of a host and the bytes of the frame that it made, if it made one
abbrev pub made_more : ℕ → Option (List ℕ) → List Made
made_more x None = []
made_more x (Some bytes) = (x, bytes) ∷ []

-- x before xs if the test holds, else xs alone
abbrev pub cons_if : {X : Type 0} → Bool → X → List X → List X
cons_if true x xs = x ∷ xs
cons_if false x xs = xs

-- the entries of host x
abbrev pub entries_at : (x : ℕ) → List HostEntry → List PlainEntry
entries_at x [] = []
entries_at x (s ∷ ss) = cons_if (x == s.0) s.1 (entries_at x ss)

-- from these opening hosts
module _ (openings : Openings) where
  -- the hosts as they open, before any frame is made
  abbrev pub opened : Hosts
  opened = record { host = λ x. host_of (openings.host x); made = [] }

  -- what an event does at host x by the protocol
  abbrev pub outcome_in : Hosts → (x : ℕ) → HostEvent → Outcome
  outcome_in w x e = outcome_at (openings.host x) (w.host x) (event_of e)

  -- the hosts after an entry of host x: each other one stays as it was
  abbrev pub after : Hosts → (x : ℕ) → PlainEntry → Hosts
  after w x n =
      record { host = put w.host x (outcome_in w x n.event).next; made = w.made ++ made_more x n.frame }

  -- the hosts after a list of entries, each of its own host
  abbrev pub after_all : Hosts → List HostEntry → Hosts
  after_all w [] = w
  after_all w (s ∷ ss) = after_all (after w s.0 s.1) ss

  -- the event of host x is that a frame came, the one at place k, which another host made for host x
  pub record Comes (w : Hosts) (x : ℕ) (e : HostEvent) (k : ℕ) : Type 0 where
    pub from : ℕ
    pub frame : Frame
    pub bytes : List ℕ
    pub event : e ≡ Came from frame
    pub other : is_there x openings.count from ≡ true
    pub stands : slice_get w.made k ≡ Some (from, bytes)
    pub same : HasBytes (openings.host x).version from x frame bytes

  -- an event of the world is this event of host x: a command there, or the delivery of a frame to it
  abbrev pub IsEvent : Hosts → Event → (x : ℕ) → HostEvent → Type 0
  IsEvent w (At host c) x e = (host ≡ x) × (e ≡ Do c)
  IsEvent w (Deliver k) x e = Comes w x e k

  -- an event of the world makes this entry of host x, with the reply and the frame of the protocol
  pub record Makes (w : Hosts) (e : Event) (x : ℕ) (n : PlainEntry) : Type 0 where
    pub there : x < openings.count
    pub event : IsEvent w e x n.event
    pub answer : IsAnswered (openings.host x).version (outcome_in w x n.event) n

  -- the events make these entries, each event one entry of one host
  abbrev pub IsRun : Hosts → List Event → List HostEntry → Type 0
  IsRun w [] [] = Unit {0}
  IsRun w [] (s ∷ ss) = ⊥
  IsRun w (e ∷ es) [] = ⊥
  IsRun w (e ∷ es) (s ∷ ss) = Makes w e s.0 s.1 × IsRun (after w s.0 s.1) es ss

  -- host `from` has made this frame for host x
  pub record WasMade (made : List Made) (x from : ℕ) (frame : Frame) : Type 0 where
    pub place : ℕ
    pub bytes : List ℕ
    pub other : is_there x openings.count from ≡ true
    pub stands : slice_get made place ≡ Some (from, bytes)
    pub same : HasBytes (openings.host x).version from x frame bytes

  -- if an event of host x is that a frame came, the frame was made
  abbrev pub CameMade : List Made → (x : ℕ) → HostEvent → Type 0
  CameMade made x (Do c) = Unit {0}
  CameMade made x (Came from frame) = WasMade made x from frame

  -- host x is there, and if its entry is that a frame came, the frame was made
  pub record MayFollow (made : List Made) (x : ℕ) (n : PlainEntry) : Type 0 where
    pub there : x < openings.count
    pub came : CameMade made x n.event

  -- each entry may follow those before it: if it is that a frame came, the frame was made before
  abbrev pub AllFollow : List Made → List HostEntry → Type 0
  AllFollow made [] = Unit {0}
  AllFollow made (s ∷ ss) = MayFollow made s.0 s.1 × AllFollow (made ++ made_more s.0 s.1.frame) ss
