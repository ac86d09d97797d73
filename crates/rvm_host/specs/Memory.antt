-- Which events of a host may take memory. Each other event succeeds or is refused, however little memory there is; each
-- of these that is refused outright is refused however little there is.
use Rattle.std.specs.Prelude.{Bool, true, false}
use Rattle.rvm_board.specs.declared.event.BoardEvent.{BoardEvent}
use Rattle.rvm_message.specs.Events.{BoardHostEvent}
use Rattle.rvm_message.specs.Frames.{BoardFrame}
use Rattle.rvm_protocol.specs.Commands.{Command, Begin, Copy, Resend, Do, Came}
use Rattle.rvm_protocol.specs.Frames.{Offer, Lost, State, Part}

-- whether a command may take memory
abbrev pub asks_memory : Command BoardEvent → Bool
asks_memory (Begin to p) = true
asks_memory Copy = true
asks_memory Resend = true
asks_memory command = false

-- whether a frame that comes may take memory
abbrev pub takes_memory : BoardFrame → Bool
takes_memory (Offer n pages harts) = true
takes_memory (Lost n pages) = true
takes_memory (State n numbers state) = true
takes_memory (Part n stamp part parts bytes) = true
takes_memory f = false

-- whether an event of a host, of either kind, may take memory
abbrev pub needs_memory : BoardHostEvent → Bool
needs_memory (Do c) = asks_memory c
needs_memory (Came from f) = takes_memory f
