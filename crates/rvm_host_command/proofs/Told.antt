-- A reply that was given and written is told.
use Rattle.std.proofs.Common.{◌≡◌, ℕ, List, Option, None, inr, refl}
use Rattle.std.specs.Io.KnownBytes.{Appends}
use Rattle.rvm_board.specs.declared.event.BoardEvent.{BoardEvent}
use Rattle.rvm_board.specs.declared.event.BoardEvent.TheVariants.{Input}
use Rattle.rvm_station.specs.Asked.{Answers}
use Rattle.rvm_core.specs.Replies.{guest_text, move_text, steps_text}
use Rattle.rvm_debug.specs.Answers.{address_of}
use Rattle.rvm_host_command.specs.declared.answers.Outcome.{Outcome}
use Rattle.rvm_host_command.specs.Told.{AreStepsTold, IsCommandTold, IsEventTold, IsInputTold, IsLastInput, IsLastStep, outcome_of}
use Rattle.rvm_message.specs.declared.event.Command.{Command}
use Rattle.rvm_message.specs.declared.event.Command.TheVariants.{Board}
use Rattle.rvm_message.specs.declared.event.HostEvent.TheVariants.{Do}
use Rattle.rvm_message.specs.declared.reply.HostReply.{HostReply}
use Rattle.rvm_message.specs.Replies.{reply_of}

module _ (gave : Answers) (outcome : Outcome) (before now : Option (List ℕ)) (r : HostReply) where
  pub command_told : (c : Command) → gave (Do c) r → Appends before now (move_text (reply_of r) None) → outcome ≡ outcome_of r
      → IsCommandTold gave c outcome before now
  command_told c given written is = inr (r, given, written, is)

  pub event_told : (e : BoardEvent) → gave (Do (Board e)) r → Appends before now (guest_text (address_of e) (reply_of r))
      → outcome ≡ outcome_of r → IsEventTold gave e outcome before now
  event_told e given written is = inr (r, given, written, is)

  pub steps_told : (h count made : ℕ) → IsLastStep gave h count made r → Appends before now (steps_text h made (reply_of r))
      → outcome ≡ outcome_of r → AreStepsTold gave h count outcome before now
  steps_told h count made last written is = inr (made, r, last, written, is)

  pub input_told : IsLastInput gave r → Appends before now (guest_text None (reply_of r)) → outcome ≡ outcome_of r
      → IsInputTold gave outcome before now
  input_told last written is = inr (r, last, written, is)

-- the reply to a byte of input
pub typed : (gave : Answers) (byte : ℕ) (r : HostReply) → gave (Do (Board (Input byte))) r → IsLastInput gave r
typed gave byte r given = inr (Do (Board (Input byte)), (byte, refl), given)
