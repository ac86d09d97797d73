-- A recorded host may go to any thread if its memory may.
use denote.RattleType.{RattleType}
use denote.Enum.Declared.{shape}
use denote.Enum.Enum.{Enum}
use denote.Struct.Declared as struct
use denote.Struct.Struct.{Struct}
use denote.Param.Send.{IsSend, sendable}
use Rattle.std.proofs.Crossing.{crosses}
use Rattle.rvm_mem.specs.declared.memory.Memory as Memory
use Rattle.rvm_host.proofs.Sends.{host_send}
use Rattle.rvm_message.specs.contracts.event.HostEvent as HostEvent
use Rattle.rvm_message.specs.contracts.reply.HostReply as HostReply
use Rattle.rvm_message.specs.contracts.step.StepReply as StepReply
use Rattle.rvm_message.specs.contracts.exchange.Pair as Pair
use Rattle.rvm_message.specs.contracts.exchange.Kept as Kept
use Rattle.rvm_message.specs.contracts.exchange.Exchange as Exchange
use Rattle.rvm_message.specs.contracts.exchange.ExchangeRoom as ExchangeRoom
use Rattle.rvm_recorder.specs.contracts.entry.Entry as Entry
use Rattle.rvm_recorder.specs.contracts.journal.Journal as Journal
use Rattle.rvm_recorder.specs.contracts.recorded.Recorded as Recorded

event_send : IsSend (Enum (shape HostEvent.the_type))
event_send = search (sendable, crosses) depth 40 fits 10000

reply_send : IsSend (Enum (shape HostReply.the_type))
reply_send = search (sendable, crosses) depth 40 fits 10000

step_reply_send : IsSend (Enum (shape StepReply.the_type))
step_reply_send = search (sendable, crosses) depth 40 fits 10000

pair_send : IsSend (Struct (struct.shape Pair.the_type))
pair_send = search (event_send, reply_send, sendable, crosses) depth 40 fits 10000

kept_send : IsSend (Enum (shape Kept.the_type))
kept_send = search (step_reply_send, pair_send, sendable, crosses) depth 60 fits 20000

pub exchange_send : IsSend Exchange.the_row
exchange_send = search (kept_send, sendable, crosses) depth 40 fits 10000

pub room_send : IsSend (Struct (struct.shape ExchangeRoom.the_type))
room_send = search (pair_send, sendable, crosses) depth 40 fits 10000

entry_send : IsSend Entry.the_row
entry_send = search (exchange_send, sendable, crosses) depth 40 fits 10000

journal_send : (M : RattleType) (g : Memory.Ghosts M.Denot) → IsSend M → IsSend (Journal.the_row M g)
journal_send M g s = search (entry_send, room_send, sendable, crosses) depth 40 fits 10000

pub recorded_send : (M : RattleType) (g : Memory.Ghosts M.Denot) → IsSend M → IsSend (Recorded.the_row M g)
recorded_send M g s = search (host_send, journal_send, sendable, crosses) depth 40 fits 10000
