-- Frames as the protocol of live migration has them.
use Rattle.std.specs.Prelude.{ℕ, Bool, true, ◌&&◌, nat_lt, nat_le, if◌then◌else◌, List, Option, Some, None}
use Rattle.rvm_protocol.specs.Frames as protocol
use Rattle.rvm_frame.specs.declared.addressed.Addressed.{Addressed}
use Rattle.rvm_frame.specs.declared.frame.Frame.{Frame}
use Rattle.rvm_frame.specs.declared.frame.Frame.TheVariants as frame
use Rattle.rvm_frame.specs.Kinds.{move_of}

-- a frame of the protocol, whose pages and states are lists of bytes
abbrev pub BoardFrame : Type 0
BoardFrame = protocol.Frame (List ℕ) (List ℕ)

-- a frame for which no host waits, since moves are numbered from 1
abbrev pub no_frame : BoardFrame
no_frame = protocol.Accept 0

-- a frame that a host makes, as the protocol has it
abbrev pub frame_of : Frame → BoardFrame
frame_of (frame.Hello version) = no_frame
frame_of (frame.Offer n pages harts) = protocol.Offer n pages harts
frame_of (frame.Accept n) = protocol.Accept n
frame_of (frame.Refuse n limit) = protocol.Refuse n limit
frame_of (frame.Page n page number bytes) = protocol.Page n page number bytes
frame_of (frame.RoundEnd n round sent skipped left) = protocol.RoundEnd n round sent skipped left
frame_of (frame.Lost n pages) = protocol.Lost n pages
frame_of (frame.State n numbers state) = protocol.State n numbers state
frame_of (frame.Ready n) = protocol.Ready n
frame_of (frame.Go n) = protocol.Go n
frame_of (frame.Started n) = protocol.Started n
frame_of (frame.Abort n) = protocol.Abort n
frame_of (frame.Zero n page number) = protocol.Zero n page number
frame_of (frame.Part n stamp part parts bytes) = protocol.Part n stamp part parts bytes

-- whether a frame's counts are in range: an offer is of at least one page, and a state comes in at most six pieces
abbrev pub is_whole : Frame → Bool
is_whole (frame.Offer n pages harts) = nat_lt 0 pages
is_whole (frame.Part n stamp part parts bytes) = nat_le parts 6
is_whole f = true

-- whether a frame can stand in a stream after Hello: its counts are in range, and it has a move number, unlike Hello
abbrev pub can_come : Frame → Bool
can_come f = nat_lt 0 (move_of f) && is_whole f

-- a frame that comes to a host, as the protocol has it
abbrev pub frame_heard : Frame → BoardFrame
frame_heard f = if can_come f then frame_of f else no_frame

-- a frame that was made, if any, as the protocol has it
abbrev pub frame_made : Option Frame → Option BoardFrame
frame_made None = None
frame_made (Some f) = Some (frame_of f)

-- a frame with the hosts between which it goes, as the protocol has it
abbrev pub addressed_of : Addressed → protocol.Addressed (List ℕ) (List ℕ)
addressed_of a = record { from = a.from; to = a.to; frame = frame_of a.frame }

-- a frame that was made, if any, with the hosts between which it goes
abbrev pub addressed_made : Option Addressed → Option (protocol.Addressed (List ℕ) (List ℕ))
addressed_made None = None
addressed_made (Some a) = Some (addressed_of a)
