-- `==` tells any two events apart, and any two replies: a lemma for each type, with the fields of its variants in the
-- order in which they are declared.
use Rattle.std.specs.Prelude.{Bool, ◌&&◌, ℕ, nat_eq}
use Rattle.std.proofs.Common.{rules}
use Rattle.std.specs.Cmp.{unsigned_Decides}
use Rattle.std.specs.Cmp.Lexicographic.{pointwise, bytes_decides}
use denote.Enum.Bare.{same_true, true_same}
use Rattle.rvm_message.proofs.Derived.{TellsApart, both, no_field, one_field, variants_apart}
use Rattle.rvm_csr.specs.contracts.cause.ExceptionPartialEq.TheImpl as exception
use Rattle.rvm_csr.specs.contracts.cause.Exception as Exception
use Rattle.rvm_csr.specs.contracts.cause.InterruptPartialEq.TheImpl as interrupt
use Rattle.rvm_csr.specs.contracts.cause.Interrupt as Interrupt
use Rattle.rvm_board.specs.contracts.event.BoardEventPartialEq.TheImpl as board_event
use Rattle.rvm_board.specs.contracts.event.BoardEvent as BoardEvent
use Rattle.rvm_board.specs.contracts.event.BoardReplyPartialEq.TheImpl as board_reply
use Rattle.rvm_board.specs.contracts.event.BoardReply as BoardReply
use Rattle.rvm_board.specs.contracts.event.BoardRefusalPartialEq.TheImpl as board_refusal
use Rattle.rvm_board.specs.contracts.event.BoardRefusal as BoardRefusal
use Rattle.rvm_frame.specs.contracts.frame.FramePartialEq.TheImpl as frame
use Rattle.rvm_frame.specs.contracts.frame.Frame as Frame
use Rattle.rvm_precopy.specs.contracts.policy.PolicyPartialEq.TheImpl as policy
use Rattle.rvm_message.specs.contracts.event.CommandPartialEq.TheImpl as command
use Rattle.rvm_message.specs.contracts.event.Command as Command
use Rattle.rvm_message.specs.contracts.event.HostEventPartialEq.TheImpl as host_event
use Rattle.rvm_message.specs.contracts.event.HostEvent as HostEvent
use Rattle.rvm_message.specs.contracts.reply.HostReplyPartialEq.TheImpl as host_reply
use Rattle.rvm_message.specs.contracts.reply.HostReply as HostReply
use Rattle.rvm_message.specs.contracts.reply.HostRefusalPartialEq.TheImpl as host_refusal
use Rattle.rvm_message.specs.contracts.reply.HostRefusal as HostRefusal

-- ---- fields

number : TellsApart nat_eq
number = unsigned_Decides

numbers : TellsApart (pointwise nat_eq)
numbers = bytes_decides

-- one number, and a number before more fields
one : TellsApart (λ (x y : ℕ × Unit {0}). nat_eq x.0 y.0)
one = one_field number

more : {A : Type 0} {E : A → A → Bool} → TellsApart E → TellsApart (λ (x y : ℕ × A). nat_eq x.0 y.0 && E x.1 y.1)
more = both number

exceptions : TellsApart exception.ghosts.eq
exceptions x y = (same_true Exception.the_type tt x y, true_same Exception.the_type x y)

interrupts : TellsApart interrupt.ghosts.eq
interrupts x y = (same_true Interrupt.the_type tt x y, true_same Interrupt.the_type x y)

board_refusals : TellsApart board_refusal.ghosts.eq
board_refusals x y = (same_true BoardRefusal.the_type tt x y, true_same BoardRefusal.the_type x y)

host_refusals : TellsApart host_refusal.ghosts.eq
host_refusals x y = (same_true HostRefusal.the_type tt x y, true_same HostRefusal.the_type x y)

policies : TellsApart policy.ghosts.eq
policies x y = search rules

-- ---- events and replies of boards

pub board_events : TellsApart board_event.ghosts.eq
board_events = variants_apart BoardEvent.enum _ (one, (one, (one, (one, (one, (one, (more one, (one, (more (more one), (more (one_field numbers), tt))))))))))

pub board_replies : TellsApart board_reply.ghosts.eq
board_replies = variants_apart BoardReply.enum _ (no_field, (one_field exceptions, (one_field interrupts, (one, (one, (no_field, (one_field numbers, (one_field numbers, (more one, (one_field board_refusals, tt))))))))))

-- ---- events and replies of hosts

pub frames : TellsApart frame.ghosts.eq
frames = variants_apart Frame.enum _ (one, (more (more one), (one, (more one, (more (more (more (one_field numbers))), (more (more (more (more one))), (more (one_field numbers), (more (both numbers (one_field numbers)), (one, (one, (one, (one, (more (more one), (more (more (more (more (one_field numbers)))), tt))))))))))))))

pub commands : TellsApart command.ghosts.eq
commands = variants_apart Command.enum _ (one_field board_events, (more (one_field policies), (no_field, (no_field, (no_field, tt)))))

pub host_events : TellsApart host_event.ghosts.eq
host_events = variants_apart HostEvent.enum _ (one_field commands, (more (one_field frames), tt))

pub host_replies : TellsApart host_reply.ghosts.eq
host_replies = variants_apart HostReply.enum _ (one_field board_replies, (one, (more one, (more (more (more one)), (no_field, (no_field, (more one, (no_field, (no_field, (no_field, (one, (one, (one, (no_field, (no_field, (one, (more one, (no_field, (more one, (one, (no_field, (no_field, (no_field, (one_field host_refusals, tt))))))))))))))))))))))))
