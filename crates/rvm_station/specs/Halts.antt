-- That a host replied that its guest's board is halted.
use Rattle.std.specs.Prelude.{⊤, ℕ}
use Rattle.rvm_board.specs.declared.event.BoardReply.TheVariants as answer
use Rattle.rvm_station.specs.Asked.{Answers}
use Rattle.rvm_station.specs.declared.host_harts.HartsEnd.{HartsEnd}
use Rattle.rvm_station.specs.declared.host_harts.HartsEnd.TheVariants as ended
use Rattle.rvm_station.specs.declared.turn.Then.{Then}
use Rattle.rvm_station.specs.declared.turn.Then.TheVariants as next
use Rattle.rvm_message.specs.declared.reply.HostReply.{HostReply}
use Rattle.rvm_message.specs.declared.reply.HostReply.TheVariants.{Board as Answered}
use Rattle.rvm_message.specs.Exchanges.{step_of_hart}

-- the host gave this reply to the step of some hart
abbrev pub IsOfStep : Answers → HostReply → Type 0
IsOfStep gave reply = (hart : ℕ) × gave (step_of_hart hart) reply

-- the host replied to the step of some hart that the board is halted with this status
abbrev pub IsHalt : Answers → (status : ℕ) → Type 0
IsHalt gave status = IsOfStep gave (Answered (answer.Halted status))

-- if no turn comes next since the board is halted, the host replied so
abbrev pub HaltsSo : Answers → Then → Type 0
HaltsSo gave (next.Halted status) = IsHalt gave status
HaltsSo gave t = ⊤

-- if the worker of the harts ended since the board is halted, the host replied so
abbrev pub EndsSo : Answers → HartsEnd → Type 0
EndsSo gave (ended.Halted status) = IsHalt gave status
EndsSo gave end = ⊤
