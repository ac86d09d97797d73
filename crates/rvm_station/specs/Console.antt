-- What a host's console shows.
use Rattle.std.specs.Io.KnownBytes.{Appends}
use Rattle.std.specs.List.{flat_map}
use Rattle.std.specs.Prelude.{◌≡◌, ℕ, List, Option}
use Rattle.rvm_board.specs.declared.event.BoardEvent.TheVariants.{Input}
use Rattle.rvm_station.specs.Asked.{Answers, AreAnswered}
use Rattle.rvm_message.specs.declared.event.Command.TheVariants.{Board}
use Rattle.rvm_message.specs.declared.event.HostEvent.{HostEvent}
use Rattle.rvm_message.specs.declared.event.HostEvent.TheVariants.{Do}
use Rattle.rvm_message.specs.Exchanges.{PlainExchange}
use Rattle.rvm_message.specs.Taken.{taken_by}

-- the bytes that the drains among these took, in order
abbrev pub all_taken : List PlainExchange → List ℕ
all_taken exchanges = flat_map (λ x. taken_by x.event x.reply) exchanges

-- an event hands the console a byte of input
abbrev pub IsInput : HostEvent → Type 0
IsInput event = (byte : ℕ) × (event ≡ Do (Board (Input byte)))

-- of what a host was asked and gave, the bytes that drains took were written, each once and in order, and nothing else
pub record IsShown (gave : Answers) (asked_before asked_now : Option (List PlainExchange))
    (before now : Option (List ℕ)) : Type 0 where
  pub exchanges : List PlainExchange
  pub answered : AreAnswered gave asked_before asked_now exchanges
  pub written : Appends before now (all_taken exchanges)
