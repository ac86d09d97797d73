-- Replies to a step of a hart.
use Rattle.rvm_board.specs.declared.event.BoardRefusal.TheVariants.{BadHart}
use Rattle.rvm_board.specs.declared.event.BoardReply.TheVariants as answer
use Rattle.rvm_board.specs.Events as events
use Rattle.rvm_message.specs.declared.reply.HostReply.{HostReply}
use Rattle.rvm_message.specs.declared.reply.HostReply.TheVariants.{Board, Refused}
use Rattle.rvm_message.specs.declared.step.StepReply.{StepReply}
use Rattle.rvm_message.specs.declared.step.StepReply.TheVariants as step

-- the reply to a step, as a reply of a host
abbrev pub reply_to_step : StepReply → HostReply
reply_to_step (step.Stepped s) = Board (events.reply_of s)
reply_to_step (step.Break a) = Board (answer.Break a)
reply_to_step step.BadHart = Board (answer.Refused BadHart)
reply_to_step (step.Refused why) = Refused why
