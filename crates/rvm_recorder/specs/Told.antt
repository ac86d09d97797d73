-- Views of entries.
use Rattle.std.specs.Prelude.{ℕ}
use Rattle.rvm_hart.specs.declared.outcome.Stepped.TheVariants.{Retired}
use Rattle.rvm_recorder.specs.declared.left.Told.{Told}
use Rattle.rvm_recorder.specs.declared.left.Told.TheVariants as told
use Rattle.rvm_recorder.specs.Entries.{PlainEntry, exchange_of, silent}
use Rattle.rvm_recorder.specs.Items.{dry_entry}
use Rattle.rvm_message.specs.declared.step.StepReply.TheVariants.{Stepped}
use Rattle.rvm_message.specs.Exchanges.{PlainExchange, step_of_hart}
use Rattle.rvm_message.specs.Steps.{reply_to_step}

-- the entry of a step of a hart that retired an instruction
abbrev pub retired_entry : (hart : ℕ) → PlainEntry
retired_entry h = silent (step_of_hart h) (reply_to_step (Stepped Retired))

-- the entry that a view shows
abbrev pub told_entry : Told → PlainEntry
told_entry (told.Entry e) = e.now
told_entry (told.Step h) = retired_entry h
told_entry (told.Dry n) = dry_entry n

-- the event and the reply of the entry that a view shows
abbrev pub exchange_told : Told → PlainExchange
exchange_told t = exchange_of (told_entry t)
