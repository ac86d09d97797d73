-- What a host was asked, in order, and the replies that it gave.
use Rattle.std.specs.List.{All}
use Rattle.std.specs.Prelude.{◌≡◌, ⊤, ℕ, List, ◌++◌, Option, None, Some}
use Rattle.rvm_message.specs.declared.event.Command.TheVariants.{Copy}
use Rattle.rvm_message.specs.declared.event.HostEvent.{HostEvent}
use Rattle.rvm_message.specs.declared.event.HostEvent.TheVariants.{Do}
use Rattle.rvm_message.specs.declared.reply.HostReply.{HostReply}
use Rattle.rvm_message.specs.Exchanges.{PlainExchange, step_of_hart}

-- which replies a host gave to which events
abbrev pub Answers : Type 1
Answers = HostEvent → HostReply → Type 0

-- these exchanges were added to those before, if a list of them is kept
abbrev pub Adds : (before now : Option (List PlainExchange)) → List PlainExchange → Type 0
Adds None now exchanges = ⊤
Adds (Some old) None exchanges = ⊥
Adds (Some old) (Some new) exchanges = new ≡ old ++ exchanges

-- the host was asked these in order, and gave each of the replies
pub record AreAnswered (gave : Answers) (before now : Option (List PlainExchange))
    (exchanges : List PlainExchange) : Type 0 where
  pub given : All (λ x. gave x.event x.reply) exchanges
  pub added : Adds before now exchanges

-- the host was asked events that are all of this kind
pub record AreAllOf (Kind : HostEvent → Type 0) (gave : Answers)
    (before now : Option (List PlainExchange)) : Type 0 where
  pub exchanges : List PlainExchange
  pub kind : All (λ x. Kind x.event) exchanges
  pub answered : AreAnswered gave before now exchanges

-- an event asks for Copy: a copy of a page, or the next step of a move
abbrev pub IsCopy : HostEvent → Type 0
IsCopy event = event ≡ Do Copy

-- an event asks for the step of a hart
abbrev pub IsTurn : HostEvent → Type 0
IsTurn event = (hart : ℕ) × (event ≡ step_of_hart hart)
