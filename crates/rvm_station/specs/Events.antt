-- Hosts that events reach from an opening host, the replies that they give, and the frames that they make.
use Rattle.std.specs.List.{fold}
use Rattle.std.specs.Prelude.{◌≡◌, List, ℕ, Some}
use Rattle.rvm_host.specs.Hosts.{PlainHost, host_of, step_of}
use Rattle.rvm_board.specs.Guest.{Guest}
use Rattle.rvm_frame.specs.declared.addressed.Addressed.{Addressed}
use Rattle.rvm_guest.specs.TheGuest.{board}
use Rattle.rvm_message.specs.declared.event.HostEvent.{HostEvent}
use Rattle.rvm_message.specs.declared.reply.HostReply.{HostReply}
use Rattle.rvm_message.specs.Events.{BoardHostEvent, event_of}
use Rattle.rvm_message.specs.Frames.{addressed_made}
use Rattle.rvm_message.specs.Replies.{reply_of}
use Rattle.rvm_protocol.specs.Host as protocol
use Rattle.rvm_protocol.specs.Host.{host_step}

-- the host of the protocol after an event, if it began as `o`
abbrev pub next_at : PlainHost → protocol.Host Guest (List ℕ) → BoardHostEvent → protocol.Host Guest (List ℕ)
next_at o x e = (host_step board o.version o.id o.count o.limit e x).next

-- events lead from the opening host to this one
pub record IsReached (opening h : PlainHost) : Type 0 where
  pub events : List BoardHostEvent
  pub reached : host_of h ≡ fold (next_at opening) (host_of opening) events
  pub rest : h ≡ record opening { mode = h.mode; partner = h.partner }

-- some host gives this reply to this event
pub record IsReply (event : HostEvent) (reply : HostReply) : Type 0 where
  pub host : PlainHost
  pub replied : reply_of reply ≡ (step_of host (event_of event)).reply

-- a host that events reach from the opening host gives this reply to this event
pub record IsAnswer (opening : PlainHost) (event : HostEvent) (reply : HostReply) : Type 0 where
  pub host : PlainHost
  pub reached : IsReached opening host
  pub replied : reply_of reply ≡ (step_of host (event_of event)).reply

-- such a reply is one that some host gives
pub reply_in : (opening : PlainHost) (event : HostEvent) (reply : HostReply) → IsAnswer opening event reply
    → IsReply event reply
reply_in opening event reply a = record { host = a.host; replied = a.replied }

-- a host that events reach from the opening host makes this frame at one more event
pub record IsMade (opening : PlainHost) (frame : Addressed) : Type 0 where
  pub host : PlainHost
  pub reached : IsReached opening host
  pub event : BoardHostEvent
  pub made : addressed_made (Some frame) ≡ (step_of host event).made
