-- Worlds of hosts, as plain values and as the protocol of live migration has them.
use Rattle.std.specs.Prelude.{◌≡◌, ℕ, ◌<◌, ◌≤◌, ◌==◌, ◌&&◌, Bool, true, false, List, [], ◌∷◌, map, length, take, get_or, Option, Some, None, nat_lt, if◌then◌else◌, Result, Ok, Err, is_ok}
use Rattle.std.specs.List.{list_all}
use Rattle.rvm_codec.specs.Numbers.{within}
use Rattle.rvm_board.specs.declared.event.BoardEvent.{BoardEvent}
use Rattle.rvm_board.specs.declared.event.BoardReply.{BoardReply}
use Rattle.rvm_board.specs.Guest.{Guest, GuestState}
use Rattle.rvm_frame.specs.declared.addressed.Addressed.{Addressed}
use Rattle.rvm_frame.specs.Grammar.{HasSpelling, Received, sent, spelling}
use Rattle.rvm_frame.specs.Verdict.{one_frame_of, verdict}
use Rattle.rvm_guest.specs.TheGuest.{board}
use Rattle.rvm_guest.specs.Valid.{is_valid}
use Rattle.rvm_message.specs.Events.{BoardHostEvent, command_of}
use Rattle.rvm_message.specs.Frames.{BoardFrame, frame_heard, no_frame}
use Rattle.rvm_message.specs.Replies.{is_refused_outright, reply_of}
use Rattle.rvm_protocol.specs.Commands.{Board, Came}
use Rattle.rvm_protocol.specs.Frames as frames
use Rattle.rvm_protocol.specs.Replies.{Reply, Committed}
use Rattle.rvm_protocol.specs.Shown.{Shown}
use Rattle.rvm_protocol.specs.Told.{Told}
use Rattle.rvm_protocol.specs.World as protocol
use Rattle.rvm_host.specs.Hosts.{PlainHost, host_of, is_spoken, new_host}
use Rattle.rvm_host.specs.Spelled.{IsSpelled}
use Rattle.rvm_core.specs.declared.event.Event.{Event}
use Rattle.rvm_core.specs.declared.event.Event.TheVariants as event
use Rattle.rvm_core.specs.declared.event.WorldReply.{WorldReply}

-- a frame that was sent: its bytes, and the hosts between which it goes
pub record Kept : Type 0 where
  pub from : ℕ
  pub to : ℕ
  pub bytes : List ℕ

-- a world: the version of its streams, its hosts in order, each frame that was sent, oldest first, and the host that
-- has the guest
pub record PlainWorld : Type 0 where
  pub version : ℕ
  pub hosts : List PlainHost
  pub sent : List Kept
  pub current : ℕ

-- the frame that was read; if none was, one for which no host waits
abbrev pub frame_or : {F : Type 0} → Result Received F → BoardFrame
frame_or (Ok x) = frame_heard x.1
frame_or (Err why) = no_frame

-- the frame that bytes are in a stream of this version; if they are none, one for which no host waits
abbrev pub frame_in : (version : ℕ) → List ℕ → BoardFrame
frame_in version bytes = frame_or (one_frame_of (verdict (Some version) bytes))

-- whether bytes are a frame in a stream of this version
abbrev pub is_frame : (version : ℕ) → List ℕ → Bool
is_frame version bytes = is_ok (one_frame_of (verdict (Some version) bytes))

-- a frame that was sent, as the protocol has it: the frame, and the hosts between which it goes
abbrev pub kept_of : (version : ℕ) → Kept → frames.Addressed (List ℕ) (List ℕ)
kept_of version k = record { from = k.from; to = k.to; frame = frame_in version k.bytes }

-- the host with this number; one past the last is empty, and nothing reaches it
abbrev pub host_at : List PlainHost → ℕ → PlainHost
host_at hosts x = get_or hosts x (new_host None x 0 0 0)

-- a filler for a place at which no frame was sent
abbrev pub no_kept : Kept
no_kept = record { from = 0; to = 0; bytes = [] }

-- a frame that was made, if any, as it is kept
abbrev pub posted : (version : ℕ) → Option Addressed → List Kept
posted version None = []
posted version (Some a) = record { from = a.from; to = a.to; bytes = spelling (sent version a) } ∷ []

-- a frame has a spelling of at most this many bytes, and at least one of this many places is free for it
pub record Fits (version most places : ℕ) (a : Addressed) : Type 0 where
  pub spelled : HasSpelling (sent version a)
  pub room : length (spelling (sent version a)) ≤ most
  pub place : 0 < places

-- there is room for a frame that was made, if any
abbrev pub CanBeKept : (version most places : ℕ) → Option Addressed → Type 0
CanBeKept version most places None = Unit {0}
CanBeKept version most places (Some a) = Fits version most places a

-- a world of the protocol, of debugged boards
abbrev pub BoardWorld : Type 0
BoardWorld = protocol.World Guest (List ℕ) (List ℕ)

-- a world as the protocol has it
abbrev pub world_of : PlainWorld → BoardWorld
world_of w =
    record {
      version = w.version;
      count = length w.hosts;
      limits = λ x. (host_at w.hosts x).limit;
      hosts = λ x. host_of (host_at w.hosts x);
      sent = map (kept_of w.version) w.sent;
    }

-- an event of a world, as the protocol has it
abbrev pub meant : Event → protocol.Event BoardEvent
meant (event.At x c) = protocol.At x (command_of c)
meant (event.Deliver k) = protocol.Deliver k

-- a reply in a world, as the protocol has it
abbrev pub said : WorldReply → Reply BoardReply
said r = reply_of r.reply

-- the host that has the guest after a reply: the sender of a frame to which the reply is Committed
abbrev pub current_after : BoardHostEvent → Reply BoardReply → (current : ℕ) → ℕ
current_after (Came from frame) (Committed n) current = from
current_after e r current = current

-- whether an event may take memory: any but an event of the guest
abbrev pub asks_memory : protocol.Event BoardEvent → Bool
asks_memory (protocol.At x (Board e)) = false
asks_memory e = true

-- a command is not refused outright, or a frame that comes was sent; its bytes are read before its host hears it
abbrev pub IsHeeded : BoardWorld → protocol.Event BoardEvent → Type 0
IsHeeded w (protocol.At x c) = is_refused_outright (protocol.reply_to board w (protocol.At x c)) ≡ false
IsHeeded w (protocol.Deliver k) = k < length w.sent

-- the place of the frame that was made, if more frames were sent after an event than before it
abbrev pub place_of : (before after : ℕ) → Option ℕ
place_of before after = if nat_lt before after then Some before else None

-- the place of the frame that each of some events makes, if it makes one
unfoldable pub places_of : BoardWorld → List (protocol.Event BoardEvent) → List (Option ℕ)
places_of w [] = []
places_of w (e ∷ es) =
    let v = protocol.step board w e in
    place_of (length w.sent) (length v.sent) ∷ places_of v es

-- whether hosts take 1 to 4096 pages each and can speak this version of the stream
abbrev pub is_sized : (version : ℕ) → (limits : List ℕ) → Bool
is_sized version limits = is_spoken version (length limits) && list_all (within 1 4096) limits

-- the most pages that host x takes
abbrev pub limit_at : List ℕ → ℕ → ℕ
limit_at limits x = get_or limits x 0

-- some events lead from a new world to this one
pub record IsReached (w : BoardWorld) : Type 0 where
  pub start : Guest
  pub limits : ℕ → ℕ
  pub before : List (protocol.Event BoardEvent)
  pub valid : is_valid start ≡ true
  pub reached : w ≡ protocol.run board (protocol.new_world board w.version 0 start w.count limits) before

-- the first `made` of these events, which are not all of them, lead from the world `old` to the world `new`
pub record IsPartOf (events : List (protocol.Event BoardEvent)) (old new : BoardWorld) : Type 0 where
  pub made : ℕ
  pub there : made < length events
  pub leaves : new ≡ protocol.run board old (take made events)

-- a host knows its own number, the number of hosts, and the version of its streams
pub record Placed (version count x : ℕ) (h : PlainHost) : Type 0 where
  pub named : h.id ≡ x
  pub counts : h.count ≡ count
  pub writes : h.version ≡ version

-- a frame that was sent goes between hosts that are there, and its bytes are the spelling of the frame that they are
-- read as
pub record IsKept (version count : ℕ) (k : Kept) : Type 0 where
  pub sender : k.from < count
  pub receiver : k.to < count
  pub spelled : IsSpelled version (kept_of version k) k.bytes

-- a world's numbers are within their limits, each host stands at its place, each frame is spelled, some events lead to
-- the world from a new one, and the guest is at its current host
pub record IsWorld (w : PlainWorld) : Type 0 where
  pub sized : is_sized w.version (map (λ h. h.limit) w.hosts) ≡ true
  pub placed : (x : ℕ) → x < length w.hosts → Placed w.version (length w.hosts) x (host_at w.hosts x)
  pub kept : (k : ℕ) → k < length w.sent → IsKept w.version (length w.hosts) (get_or w.sent k no_kept)
  pub reached : IsReached (world_of w)
  pub current : (t : Told Guest) → Shown (world_of w).hosts t → w.current ≡ t.current

-- these are the first n hosts of a new world, of which the first has the guest
pub record AreNew (g : GuestState) (version : ℕ) (limits : List ℕ) (n : ℕ) (hosts : List PlainHost) : Type 0 where
  pub count : length hosts ≡ n
  pub each : (x : ℕ) → x < n
      → host_at hosts x ≡ new_host (if x == 0 then Some g else None) x (length limits) (limit_at limits x) version
