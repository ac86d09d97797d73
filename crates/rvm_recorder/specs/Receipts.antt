-- A receipt, as contracts see it.
use Rattle.std.specs.Prelude.{ℕ}
use Rattle.rvm_message.specs.declared.event.HostEvent.{HostEvent}
use Rattle.rvm_message.specs.declared.reply.HostReply.{HostReply}

-- a receipt: its place in the journal, the seat that called, how many calls it had made before, the event and its reply
pub record PlainReceipt : Type 0 where
  pub place : ℕ
  pub seat : ℕ
  pub count : ℕ
  pub event : HostEvent
  pub reply : HostReply
