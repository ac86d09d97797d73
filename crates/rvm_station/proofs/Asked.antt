-- What a host is asked, and what it is asked after that.
use Rattle.std.proofs.Common.{◌∙◌, List, [], ◌∷◌, ◌++◌, append-nil, append_assoc, Option, None, Some, ap, sym}
use Rattle.std.proofs.lemmas.List.Elements.{All-append, All-head, All-nil}
use Rattle.rvm_message.specs.declared.event.HostEvent.{HostEvent}
use Rattle.rvm_message.specs.declared.reply.HostReply.{HostReply}
use Rattle.rvm_message.specs.Exchanges.{PlainExchange, exchange}
use Rattle.rvm_station.specs.Asked.{Adds, Answers, AreAnswered}

none_added : (known : Option (List PlainExchange)) → Adds known known []
none_added None = tt
none_added (Some xs) = sym (append-nil xs)

both_added : (before mid now : Option (List PlainExchange)) (xs ys : List PlainExchange) → Adds before mid xs → Adds mid now ys
    → Adds before now (xs ++ ys)
both_added None mid now xs ys one two = tt
both_added (Some b) None now xs ys one two = absurd one
both_added (Some b) (Some m) None xs ys one two = absurd two
both_added (Some b) (Some m) (Some n) xs ys one two = two ∙ ap (λ l. l ++ ys) one ∙ append_assoc b xs ys

module _ (gave : Answers) where
  -- the reply to one event was given
  pub one_given : (before now : Option (List PlainExchange)) (event : HostEvent) (reply : HostReply)
      → AreAnswered gave before now (exchange event reply ∷ []) → gave event reply
  one_given before now event reply a = All-head (λ x. gave x.event x.reply) (exchange event reply) [] a.given

  -- nothing was asked
  pub none_answered : (known : Option (List PlainExchange)) → AreAnswered gave known known []
  none_answered known = record { given = All-nil (λ x. gave x.event x.reply); added = none_added known }

  -- more was asked after that
  pub both_answered : (before mid now : Option (List PlainExchange)) (xs ys : List PlainExchange)
      → AreAnswered gave before mid xs → AreAnswered gave mid now ys → AreAnswered gave before now (xs ++ ys)
  both_answered before mid now xs ys one two = record {
    given = All-append (λ x. gave x.event x.reply) xs ys one.given two.given;
    added = both_added before mid now xs ys one.added two.added;
  }
