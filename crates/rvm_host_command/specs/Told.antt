-- What operators are told.
use Rattle.std.specs.Io.KnownBytes.{Appends}
use Rattle.std.specs.Option.{unwrap_or}
use Rattle.std.specs.Prelude.{◌≡◌, ◌⊎◌, ℕ, ◌≤◌, List, ◌++◌, codes, Option, None, if◌then◌else◌}
use Rattle.rvm_board.specs.declared.event.BoardEvent.{BoardEvent}
use Rattle.rvm_board.specs.declared.event.BoardReply.TheVariants as answer
use Rattle.rvm_station.specs.Asked.{Answers}
use Rattle.rvm_station.specs.Console.{IsInput}
use Rattle.rvm_station.specs.News.{IsFinished}
use Rattle.rvm_core.specs.declared.world_line.Asked.{Asked}
use Rattle.rvm_core.specs.declared.world_line.Asked.TheVariants as asked
use Rattle.rvm_core.specs.Replies.{guest_text, move_text, steps_text}
use Rattle.rvm_debug.specs.declared.line.Line.{Line}
use Rattle.rvm_debug.specs.declared.line.Line.TheVariants as line
use Rattle.rvm_debug.specs.Answers.{address_of, is_refused}
use Rattle.rvm_host_command.specs.declared.answers.Outcome.{Outcome}
use Rattle.rvm_host_command.specs.declared.answers.Outcome.TheVariants.{Done, Refused}
use Rattle.rvm_message.specs.declared.event.Command.{Command}
use Rattle.rvm_message.specs.declared.event.Command.TheVariants as command
use Rattle.rvm_message.specs.declared.event.HostEvent.{HostEvent}
use Rattle.rvm_message.specs.declared.event.HostEvent.TheVariants.{Do}
use Rattle.rvm_message.specs.declared.reply.HostReply.{HostReply}
use Rattle.rvm_message.specs.declared.reply.HostReply.TheVariants as reply
use Rattle.rvm_message.specs.Exchanges.{step_of_hart}
use Rattle.rvm_message.specs.Replies.{reply_of}
use Rattle.rvm_refusal.specs.declared.refusal.Refusal.TheVariants.{OutOfMemory}
use Rattle.rvm_refusal.specs.Refusal.{text_of}

-- it is told that a move happened only if the host heard that the guest of such a move runs at its target
abbrev pub IsMoveTold : (gave : Answers) → Outcome → Type 0
IsMoveTold gave outcome = outcome ≡ Done → (number : ℕ) × IsFinished gave number

-- whether what a host was asked happened, by its reply
abbrev pub outcome_of : HostReply → Outcome
outcome_of (reply.Board a) = if is_refused a then Refused else Done
outcome_of (reply.Refused why) = Refused
outcome_of r = Done

-- memory ran out, and that was written
abbrev pub IsUnasked : Outcome → (before now : Option (List ℕ)) → Type 0
IsUnasked outcome before now = (outcome ≡ Refused) × Appends before now (text_of OutOfMemory ++ codes "\n")

-- the host gave this reply to a command, it was written, and the outcome is the reply's; or memory ran out
abbrev pub IsCommandTold : (gave : Answers) → Command → Outcome → (before now : Option (List ℕ)) → Type 0
IsCommandTold gave c outcome before now =
    IsUnasked outcome before now
    ⊎ ((r : HostReply) × gave (Do c) r × Appends before now (move_text (reply_of r) None) × (outcome ≡ outcome_of r))

-- the same of an event of the guest
abbrev pub IsEventTold : (gave : Answers) → BoardEvent → Outcome → (before now : Option (List ℕ)) → Type 0
IsEventTold gave e outcome before now =
    IsUnasked outcome before now
    ⊎ ((r : HostReply) × gave (Do (command.Board e)) r × Appends before now (guest_text (address_of e) (reply_of r))
    × (outcome ≡ outcome_of r))

-- of at most `count` steps of a hart `made` were made, and this is the reply to the last, if there was one
abbrev pub IsLastStep : (gave : Answers) → (hart count made : ℕ) → HostReply → Type 0
IsLastStep gave h count made r = (made ≤ count) × (1 ≤ made → gave (step_of_hart h) r)

-- memory ran out, or steps of a hart were made, and the last reply was written
abbrev pub AreStepsTold : (gave : Answers) → (hart count : ℕ) → Outcome → (before now : Option (List ℕ)) → Type 0
AreStepsTold gave h count outcome before now =
    IsUnasked outcome before now
    ⊎ ((made : ℕ) × (r : HostReply) × IsLastStep gave h count made r × Appends before now (steps_text h made (reply_of r))
    × (outcome ≡ outcome_of r))

-- this is the reply to the last byte that came to the console, if one came
abbrev pub IsLastInput : (gave : Answers) → HostReply → Type 0
IsLastInput gave r = (r ≡ reply.Board answer.Done) ⊎ ((e : HostEvent) × IsInput e × gave e r)

abbrev pub IsInputTold : (gave : Answers) → Outcome → (before now : Option (List ℕ)) → Type 0
IsInputTold gave outcome before now =
    IsUnasked outcome before now
    ⊎ ((r : HostReply) × IsLastInput gave r × Appends before now (guest_text None (reply_of r)) × (outcome ≡ outcome_of r))

-- what is told of a line for the guest
abbrev pub IsLineTold : (gave : Answers) → Line → Outcome → (before now : Option (List ℕ)) → Type 0
IsLineTold gave line.Empty outcome before now = outcome ≡ Done
IsLineTold gave (line.Steps h count) outcome before now = AreStepsTold gave h count outcome before now
IsLineTold gave (line.Input bytes) outcome before now = IsInputTold gave outcome before now
IsLineTold gave (line.Ask e) outcome before now = IsEventTold gave e outcome before now

-- what is told of what a host was asked; if a move names no target, it goes to host `other`
abbrev pub IsAskedTold : (gave : Answers) → (other : ℕ) → Asked → Outcome → (before now : Option (List ℕ)) → Type 0
IsAskedTold gave other (asked.Guest l) outcome before now = IsLineTold gave l outcome before now
IsAskedTold gave other (asked.Move to policy) outcome before now = IsMoveTold gave outcome
IsAskedTold gave other (asked.Begin to policy) outcome before now =
    IsCommandTold gave (command.Begin (unwrap_or to other) policy) outcome before now
IsAskedTold gave other asked.Copy outcome before now = IsCommandTold gave command.Copy outcome before now
IsAskedTold gave other asked.Resend outcome before now = IsCommandTold gave command.Resend outcome before now
IsAskedTold gave other asked.Abort outcome before now = IsCommandTold gave command.Abort outcome before now
