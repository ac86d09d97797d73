-- An entry of a journal, as contracts see it.
use Rattle.std.specs.Prelude.{ℕ, List, Option, None}
use Rattle.rvm_message.specs.declared.event.HostEvent.{HostEvent}
use Rattle.rvm_message.specs.declared.reply.HostReply.{HostReply}
use Rattle.rvm_message.specs.Exchanges.{PlainExchange}

-- an event of a host, its reply, and the bytes of the frame that it made, if any
pub record PlainEntry : Type 0 where
  pub event : HostEvent
  pub reply : HostReply
  pub frame : Option (List ℕ)

-- the exchange of an entry, without the frame
abbrev pub exchange_of : PlainEntry → PlainExchange
exchange_of x = record { event = x.event; reply = x.reply }

-- the entry of an event that made no frame
abbrev pub silent : HostEvent → HostReply → PlainEntry
silent event reply = record { event = event; reply = reply; frame = None }
