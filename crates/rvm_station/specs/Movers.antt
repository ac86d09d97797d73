-- What a mover asks of its host, and how a move ended, as it reports it.
use Rattle.std.specs.Prelude.{◌≡◌, ⊤, ℕ}
use Rattle.rvm_station.specs.Asked.{Answers}
use Rattle.rvm_message.specs.declared.event.Command.TheVariants.{Abort, Begin, Copy, Resend}
use Rattle.rvm_message.specs.declared.event.HostEvent.{HostEvent}
use Rattle.rvm_message.specs.declared.event.HostEvent.TheVariants.{Do}
use Rattle.rvm_message.specs.declared.reply.HostReply.{HostReply}
use Rattle.rvm_message.specs.declared.reply.HostReply.TheVariants as reply
use Rattle.rvm_precopy.specs.declared.policy.Policy.{Policy}
use Rattle.rvm_station.specs.declared.mover.MoveEnd.{MoveEnd}
use Rattle.rvm_station.specs.declared.mover.MoveEnd.TheVariants.{Declined, GivenUp, Moved, Refused, Aborted, OutOfMemory, Stopped}
use Rattle.rvm_station.specs.News.{IsAborted, IsDeclined, IsFinished}

-- what a copier asks of its host: to begin the move to this host with this policy, to carry it on, or to give it up
abbrev pub IsOfCopier : (to : ℕ) → Policy → HostEvent → Type 0
IsOfCopier to policy (Do (Begin x p)) = (x ≡ to) × (p ≡ policy)
IsOfCopier to policy (Do Copy) = Unit {0}
IsOfCopier to policy (Do Resend) = Unit {0}
IsOfCopier to policy (Do Abort) = Unit {0}
IsOfCopier to policy e = ⊥

-- the host gave this reply when it was told to begin a move
abbrev pub IsToBegin : (gave : Answers) → HostReply → Type 0
IsToBegin gave reply = (to : ℕ) × (policy : Policy) × gave (Do (Begin to policy)) reply

-- a mover reports moved only if the host heard that the guest runs at its target; declined, given up or aborted only if
-- the guest stayed; refused only if the host refused to begin a move
abbrev pub IsMoveEnd : (gave : Answers) → MoveEnd → Type 0
IsMoveEnd gave (Moved figures) = IsFinished gave figures.number
IsMoveEnd gave (Declined limit) = (number : ℕ) × IsDeclined gave number limit
IsMoveEnd gave (Refused why) = IsToBegin gave (reply.Refused why)
IsMoveEnd gave GivenUp = IsAborted gave
IsMoveEnd gave Aborted = IsAborted gave
IsMoveEnd gave OutOfMemory = ⊤
IsMoveEnd gave Stopped = ⊤
