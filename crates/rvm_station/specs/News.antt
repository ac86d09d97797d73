-- What a host was told about the end of a move.
use Rattle.std.specs.Prelude.{ℕ, Option}
use Rattle.rvm_frame.specs.declared.frame.Frame.TheVariants.{Refuse, Started}
use Rattle.rvm_station.specs.Asked.{Answers}
use Rattle.rvm_message.specs.declared.event.Command.TheVariants.{Abort}
use Rattle.rvm_message.specs.declared.event.HostEvent.TheVariants.{Came, Do}
use Rattle.rvm_message.specs.declared.reply.HostReply.TheVariants as reply
use Rattle.rvm_station.specs.declared.news.MoveNews.{MoveNews}
use Rattle.rvm_station.specs.declared.news.MoveNews.TheVariants.{Aborted, Declined, Finished}

-- the host heard that the guest of this move runs at its target, and had waited for that: it replied Finished
abbrev pub IsFinished : (gave : Answers) → (number : ℕ) → Type 0
IsFinished gave number = (from : ℕ) × gave (Came from (Started number)) reply.Finished

-- the host heard that the target of this move refuses it, and gave the move up, since the target takes no more pages
-- than `limit`
abbrev pub IsDeclined : (gave : Answers) → (number limit : ℕ) → Type 0
IsDeclined gave number limit = (from told : ℕ) × gave (Came from (Refuse number told)) (reply.MoveDeclined limit)

-- the host was told to give up its move, and did
abbrev pub IsAborted : (gave : Answers) → Type 0
IsAborted gave = gave (Do Abort) reply.Aborted

-- the news of a move is true: the host gave the reply that it stands for
abbrev pub IsNews : (gave : Answers) → (number : ℕ) → MoveNews → Type 0
IsNews gave number Finished = IsFinished gave number
IsNews gave number (Declined limit) = IsDeclined gave number limit
IsNews gave number Aborted = IsAborted gave

-- a move that is waited for, and how it ended, if that is known
pub record PlainAwaited : Type 0 where
  pub number : ℕ
  pub news : Option MoveNews
