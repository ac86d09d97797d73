-- Events of hosts as the protocol of live migration has them.
use Rattle.std.specs.Prelude.{ℕ, Bool, true, false, List}
use Rattle.rvm_board.specs.declared.event.BoardEvent.{BoardEvent}
use Rattle.rvm_precopy.specs.Policies.{policy_of}
use Rattle.rvm_protocol.specs.Commands as protocol
use Rattle.rvm_message.specs.declared.event.Command.{Command}
use Rattle.rvm_message.specs.declared.event.Command.TheVariants as command
use Rattle.rvm_message.specs.declared.event.HostEvent.{HostEvent}
use Rattle.rvm_message.specs.declared.event.HostEvent.TheVariants as event
use Rattle.rvm_message.specs.Frames.{frame_heard}

-- an event of a host in the protocol, for the guest `board`
abbrev pub BoardHostEvent : Type 0
BoardHostEvent = protocol.HostEvent (List ℕ) BoardEvent (List ℕ)

-- a command as the protocol has it
abbrev pub command_of : Command → protocol.Command BoardEvent
command_of (command.Board e) = protocol.Board e
command_of (command.Begin to p) = protocol.Begin to (policy_of p)
command_of command.Copy = protocol.Copy
command_of command.Resend = protocol.Resend
command_of command.Abort = protocol.AbortMove

-- an event of a host as the protocol has it
abbrev pub event_of : HostEvent → BoardHostEvent
event_of (event.Do c) = protocol.Do (command_of c)
event_of (event.Came from f) = protocol.Came from (frame_heard f)

-- whether the event is a frame that comes
abbrev pub is_frame : HostEvent → Bool
is_frame (event.Do c) = false
is_frame (event.Came from f) = true
