-- A host, as plain values and as the protocol of live migration has it.
use Rattle.std.specs.Prelude.{◌≡◌, ℕ, ◌==◌, Bool, ◌&&◌, ◌||◌, nat_lt, if◌then◌else◌, List, Option, Some, None}
use Rattle.rvm_board.specs.declared.event.BoardReply.{BoardReply}
use Rattle.rvm_board.specs.Guest.{Guest, GuestState}
use Rattle.rvm_codec.specs.Numbers.{within}
use Rattle.rvm_frame.specs.declared.addressed.Addressed.{Addressed}
use Rattle.rvm_guest.specs.TheGuest.{board}
use Rattle.rvm_message.specs.declared.reply.HostReply.{HostReply}
use Rattle.rvm_message.specs.Events.{BoardHostEvent}
use Rattle.rvm_message.specs.Frames.{addressed_made}
use Rattle.rvm_message.specs.Replies.{reply_of}
use Rattle.rvm_protocol.specs.Host as protocol
use Rattle.rvm_protocol.specs.Host.{host_step, partner_then}
use Rattle.rvm_host.specs.Modes.{PlainMode, Empty, Run, mode_of}

-- a host: its mode; the other party of the highest move that it has begun or staged; its own number among this many
-- hosts; the most pages that it takes; the version of its streams
pub record PlainHost : Type 0 where
  pub mode : PlainMode
  pub partner : ℕ
  pub id : ℕ
  pub count : ℕ
  pub limit : ℕ
  pub version : ℕ

-- a host, as the protocol has it
abbrev pub host_of : PlainHost → protocol.Host Guest (List ℕ)
host_of h = record { mode = mode_of h.mode; partner = h.partner }

-- what the protocol says that an event does at a host
abbrev pub step_of : PlainHost → BoardHostEvent → protocol.Result Guest (List ℕ) BoardReply (List ℕ)
step_of h e = host_step board h.version h.id h.count h.limit e (host_of h)

-- the other party after the reply to an event
abbrev pub partner_of : BoardHostEvent → HostReply → (partner : ℕ) → ℕ
partner_of e answer partner = partner_then e (reply_of answer) partner

-- the reply, the frame that was made, and the host after the event are those of the protocol
pub record Steps (old : PlainHost) (e : BoardHostEvent) (answer : HostReply × Option Addressed) (new : PlainHost)
    : Type 0 where
  pub reply : reply_of answer.0 ≡ (step_of old e).reply
  pub made : addressed_made answer.1 ≡ (step_of old e).made
  pub next : host_of new ≡ (step_of old e).next
  pub rest : new ≡ record old { mode = new.mode; partner = new.partner }

-- whether this many hosts can speak this version of the stream: two hosts speak 1, 2 or 3, and three to eight speak 3
abbrev pub is_spoken : (version count : ℕ) → Bool
is_spoken version count = within 2 8 count && (version == 3 || (count == 2 && within 1 2 version))

-- whether a host's numbers are within their limits: this many hosts can speak the version, its own number is one of
-- theirs, and its limit is 1 to 4096 pages
abbrev pub is_sized : (id count limit version : ℕ) → Bool
is_sized id count limit version = is_spoken version count && (nat_lt id count && within 1 4096 limit)

-- the version that this many hosts speak unless another one is asked for
abbrev pub version_of : (count : ℕ) → ℕ
version_of count = if count == 2 then 1 else 3

-- the mode of a host with this guest or none, before any move
abbrev pub first_mode : Option GuestState → PlainMode
first_mode None = Empty 0
first_mode (Some g) = Run 0 g.guest

-- a host before any move, with this guest or none
abbrev pub new_host : Option GuestState → (id count limit version : ℕ) → PlainHost
new_host g id count limit version =
    record { mode = first_mode g; partner = id; id = id; count = count; limit = limit; version = version }
