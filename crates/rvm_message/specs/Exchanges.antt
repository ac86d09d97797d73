-- Exchanges: an event of a host and the reply to it.
use Rattle.std.specs.Prelude.{ℕ, Bool, true, false, List, [], length, ◌==◌}
use Rattle.rvm_board.specs.declared.event.BoardEvent.TheVariants as board
use Rattle.rvm_board.specs.declared.event.BoardReply.TheVariants as answer
use Rattle.rvm_frame.specs.declared.frame.Frame.{Frame}
use Rattle.rvm_message.specs.declared.event.Command.TheVariants.{Board, Copy}
use Rattle.rvm_message.specs.declared.event.HostEvent.{HostEvent}
use Rattle.rvm_message.specs.declared.event.HostEvent.TheVariants.{Came, Do}
use Rattle.rvm_message.specs.declared.exchange.ExchangeRef.{ExchangeRef}
use Rattle.rvm_message.specs.declared.exchange.ExchangeRef.TheVariants as look
use Rattle.rvm_message.specs.declared.exchange.Kept.{Kept}
use Rattle.rvm_message.specs.declared.exchange.Kept.TheVariants as kept
use Rattle.rvm_message.specs.declared.exchange.Pair.{Pair}
use Rattle.rvm_message.specs.declared.reply.HostReply.{HostReply}
use Rattle.rvm_message.specs.declared.reply.HostReply.TheVariants.{Board as Answered, Copied, Stored}
use Rattle.rvm_message.specs.declared.step.StepReply.{StepReply}
use Rattle.rvm_message.specs.Steps.{reply_to_step}

-- an exchange, as contracts see it
pub record PlainExchange : Type 0 where
  pub event : HostEvent
  pub reply : HostReply

-- the exchange of an event and the reply to it
abbrev pub exchange : HostEvent → HostReply → PlainExchange
exchange e r = record { event = e; reply = r }

-- the event of a step of a hart
abbrev pub step_of_hart : (hart : ℕ) → HostEvent
step_of_hart h = Do (Board (board.Step h))

-- the exchange of a step and the reply to it
abbrev pub step_exchange : (hart : ℕ) → StepReply → PlainExchange
step_exchange h r = exchange (step_of_hart h) (reply_to_step r)

-- the exchange of Copy that copied a page
abbrev pub copied_exchange : (page copy_number : ℕ) → PlainExchange
copied_exchange p n = exchange (Do Copy) (Copied p n)

-- the exchange of a frame that came and was stored as a copy of a page
abbrev pub stored_exchange : (from : ℕ) → Frame → (page copy_number : ℕ) → PlainExchange
stored_exchange h f p n = exchange (Came h f) (Stored p n)

-- the exchange of a drain of at most this many bytes that found none
abbrev pub dry_exchange : (count : ℕ) → PlainExchange
dry_exchange n = exchange (Do (Board (board.Drain n))) (Answered (answer.Bytes []))

-- whether a reply is that of a drain that found no bytes
abbrev pub tells_nothing : HostReply → Bool
tells_nothing (Answered (answer.Bytes bytes)) = length bytes == 0
tells_nothing r = false

-- whether an event and the reply to it are one of these three: Copy that copied a page, a drain that found nothing, a
-- frame that was stored
abbrev pub is_small : HostEvent → HostReply → Bool
is_small (Do Copy) (Copied p n) = true
is_small (Do (Board (board.Drain n))) r = tells_nothing r
is_small (Came h f) (Stored p n) = true
is_small e r = false

-- the exchange of an event and its reply, kept together
abbrev pub pair_exchange : Pair → PlainExchange
pair_exchange p = exchange p.event p.reply

-- the exchange that is kept in this way
abbrev pub plain_of : Kept → PlainExchange
plain_of (kept.Step h r) = step_exchange h r
plain_of (kept.Copied p n) = copied_exchange p n
plain_of (kept.Dry n) = dry_exchange n
plain_of (kept.Stored h p n f) = stored_exchange h f p n
plain_of (kept.Other p) = pair_exchange p.value

-- the exchange that a view shows
abbrev pub exchange_in : ExchangeRef → PlainExchange
exchange_in (look.Step h r) = step_exchange h r
exchange_in (look.Copied p n) = copied_exchange p n
exchange_in (look.Dry n) = dry_exchange n
exchange_in (look.Stored h f p n) = stored_exchange h f.now p n
exchange_in (look.Other e r) = exchange e.now r.now
