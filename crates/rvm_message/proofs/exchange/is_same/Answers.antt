use Rattle.std.proofs.Common.{◌≡◌, ap}
use Rattle.rvm_message.proofs.Derived.{told_apart}
use Rattle.rvm_message.proofs.Same.{host_events, host_replies}
use Rattle.rvm_message.specs.Exchanges.{PlainExchange, exchange}
use Rattle.rvm_message.proofs.exchange.is_same.Goals as goal

pub returns-then-eq : goal.returns-then-eq
returns-then-eq c =
    let events : c.args.event.now ≡ c.args.other_event.now = (told_apart host_events _ _ _ c.eq.ensures).0 c.if-eq.true in
    let replies = told_apart host_replies _ _ _ c.eq-then-eq.ensures in (
      λ h i. exchange (events i) (replies.0 h i),
      λ same. replies.1 (ap (λ (x : PlainExchange). x.reply) same),
    )
