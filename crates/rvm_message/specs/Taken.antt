-- The bytes that a drain takes.
use Rattle.std.specs.Prelude.{ℕ, List, []}
use Rattle.rvm_board.specs.declared.event.BoardEvent.TheVariants.{Drain}
use Rattle.rvm_board.specs.declared.event.BoardReply.TheVariants.{Bytes}
use Rattle.rvm_message.specs.declared.event.Command.TheVariants.{Board}
use Rattle.rvm_message.specs.declared.event.HostEvent.{HostEvent}
use Rattle.rvm_message.specs.declared.event.HostEvent.TheVariants.{Do}
use Rattle.rvm_message.specs.declared.reply.HostReply.{HostReply}
use Rattle.rvm_message.specs.declared.reply.HostReply.TheVariants.{Board as Answered}

-- the bytes in a reply; none if it is another reply
abbrev pub bytes_in : HostReply → List ℕ
bytes_in (Answered (Bytes bytes)) = bytes
bytes_in reply = []

-- the bytes that an event took, if it was a drain
abbrev pub taken_by : HostEvent → HostReply → List ℕ
taken_by (Do (Board (Drain count))) reply = bytes_in reply
taken_by event reply = []
