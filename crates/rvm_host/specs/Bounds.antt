-- The most bytes of the frame that an event makes at a host, and that the frame has a spelling.
use Rattle.std.specs.Prelude.{◌≡◌, ℕ, ◌+◌, ◌<◌, ◌≤◌, true, if◌then◌else◌, Option, Some, None, length}
use Rattle.rvm_board.specs.declared.event.BoardEvent.{BoardEvent}
use Rattle.rvm_frame.specs.declared.addressed.Addressed.{Addressed}
use Rattle.rvm_frame.specs.declared.frame.Frame.{Frame}
use Rattle.rvm_frame.specs.Grammar.{HasSpelling, MayStand, sent, spelling}
use Rattle.rvm_frame.specs.Kinds.{header_len, names_hosts}
use Rattle.rvm_message.specs.Events.{BoardHostEvent}
use Rattle.rvm_message.specs.Frames.{BoardFrame}
use Rattle.rvm_message.specs.Replies.{is_refused_outright}
use Rattle.rvm_protocol.specs.Commands.{Command, Board, Begin, Copy, Resend, AbortMove, Do, Came}
use Rattle.rvm_protocol.specs.Frames.{Offer, State, Part, Ready, Go}
use Rattle.rvm_protocol.specs.Host.{is_there}
use Rattle.rvm_source.specs.Bounds.{body_bound}
use Rattle.rvm_host.specs.Hosts.{PlainHost, is_sized, step_of}
use Rattle.rvm_host.specs.Modes.{PlainMode, Leaving, Given, Held, Empty, Run, Staging}

-- the most body bytes of the frame that Copy may make; if None, it makes no frame
abbrev pub copy_body : (version : ℕ) → PlainMode → Option ℕ
copy_body version (Leaving s) = Some (body_bound version s)
copy_body version mode = None

-- the most body bytes of the frame that Resend may make
abbrev pub resend_body : (version : ℕ) → PlainMode → Option ℕ
resend_body version (Leaving s) = Some (body_bound version s)
resend_body version (Given n kept) = Some 0
resend_body version (Held n g) = Some 0
resend_body version mode = None

-- the most body bytes of the frame that a command may make
abbrev pub command_body : (version : ℕ) → PlainMode → Command BoardEvent → Option ℕ
command_body version mode (Board e) = None
command_body version mode (Begin to p) = Some 3
command_body version mode Copy = copy_body version mode
command_body version mode Resend = resend_body version mode
command_body version mode AbortMove = Some 0

-- the most body bytes of the frame that may answer one that comes
abbrev pub came_body : BoardFrame → Option ℕ
came_body (Offer n pages harts) = Some 2
came_body (State n numbers state) = Some 8194
came_body (Part n stamp part parts bytes) = Some 8194
came_body (Ready n) = Some 0
came_body (Go n) = Some 0
came_body f = None

-- the most body bytes of the frame that an event may make
abbrev pub event_body : PlainHost → BoardHostEvent → Option ℕ
event_body h (Do c) = command_body h.version h.mode c
event_body h (Came from f) = came_body f

-- the number of bytes of a frame with this many body bytes; 0 if there is no frame
abbrev pub with_header : (version : ℕ) → Option ℕ → ℕ
with_header version None = 0
with_header version (Some n) = header_len (names_hosts (Some version)) + n

-- the most bytes of the frame that an event may make; a command that is refused outright makes none
abbrev pub frame_bound : PlainHost → BoardHostEvent → ℕ
frame_bound h (Do c) =
    if is_refused_outright (step_of h (Do c)).reply then 0 else with_header h.version (event_body h (Do c))
frame_bound h (Came from f) = with_header h.version (event_body h (Came from f))

-- a body, if any, has at most 32768 bytes
abbrev pub IsShort : Option ℕ → Type 0
IsShort None = Unit {0}
IsShort (Some n) = n ≤ 32768

-- a frame that was made, if any, with the host that it comes from and the one that it goes to
abbrev pub addressed : (from to : ℕ) → Option Frame → Option Addressed
addressed from to None = None
addressed from to (Some f) = Some (record { from = from; to = to; frame = f })

-- a frame comes from this host and goes to another, may stand in its stream, and has a spelling of at most this many
-- bytes
pub record IsPosted (h : PlainHost) (most : ℕ) (a : Addressed) : Type 0 where
  pub from : a.from ≡ h.id
  pub to : is_there h.id h.count a.to ≡ true
  pub spelled : HasSpelling (sent h.version a)
  pub stands : MayStand (Some h.version) (sent h.version a)
  pub short : length (spelling (sent h.version a)) ≤ most

-- a frame that was made, if any, is such a frame
abbrev pub CanBePosted : (h : PlainHost) → (most : ℕ) → Option Addressed → Type 0
CanBePosted h most None = Unit {0}
CanBePosted h most (Some a) = IsPosted h most a

-- a move has a number, and another host is its other party
abbrev pub IsMove : (id count partner move : ℕ) → Type 0
IsMove id count partner n = (0 < n) × (is_there id count partner ≡ true)

-- in each mode of a move, the move has a number, and another host is its other party
abbrev pub KeepsMove : (id count partner : ℕ) → PlainMode → Type 0
KeepsMove id count partner (Empty n) = Unit {0}
KeepsMove id count partner (Run n g) = Unit {0}
KeepsMove id count partner (Leaving s) = IsMove id count partner s.move_number
KeepsMove id count partner (Given n kept) = IsMove id count partner n
KeepsMove id count partner (Staging n s) = IsMove id count partner n
KeepsMove id count partner (Held n g) = IsMove id count partner n

-- a move whose last frame, Go or Ready, can be sent again has a number
abbrev pub HasNumber : PlainMode → Type 0
HasNumber (Given n kept) = 0 < n
HasNumber (Held n g) = 0 < n
HasNumber mode = Unit {0}

-- a host's numbers are within their limits, and its move, if any, is with another host
pub record IsHost (h : PlainHost) : Type 0 where
  pub sized : is_sized h.id h.count h.limit h.version ≡ true
  pub moves : KeepsMove h.id h.count h.partner h.mode
