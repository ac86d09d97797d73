-- All that a host is asked is of one kind.
use Rattle.std.proofs.Common.{ℕ, List, [], ◌∷◌, ◌++◌, Option, subst, sym}
use Rattle.std.proofs.lemmas.List.Elements.{All-append, All-cons, All-nil, All-weaker}
use Rattle.rvm_station.proofs.Asked.{both_answered, none_answered}
use Rattle.rvm_station.specs.Asked.{Answers, AreAllOf, AreAnswered, IsCopy}
use Rattle.rvm_message.specs.declared.event.HostEvent.{HostEvent}
use Rattle.rvm_message.specs.declared.reply.HostReply.{HostReply}
use Rattle.rvm_message.specs.Exchanges.{PlainExchange, exchange}
use Rattle.rvm_precopy.specs.declared.policy.Policy.{Policy}
use Rattle.rvm_station.specs.Movers.{IsOfCopier}

module _ (Kind : HostEvent → Type 0) (gave : Answers) where
  abbrev is_kind : PlainExchange → Type 0
  is_kind x = Kind x.event

  -- nothing was asked
  pub none_of : (asked : Option (List PlainExchange)) → AreAllOf Kind gave asked asked
  none_of asked = record { exchanges = []; kind = All-nil is_kind; answered = none_answered gave asked }

  pub unasked_of : (before now : Option (List PlainExchange)) → AreAnswered gave before now [] → AreAllOf Kind gave before now
  unasked_of before now answered = record { exchanges = []; kind = All-nil is_kind; answered = answered }

  -- one thing was asked
  pub one_of : (before now : Option (List PlainExchange)) (event : HostEvent) (reply : HostReply) → Kind event
      → AreAnswered gave before now (exchange event reply ∷ []) → AreAllOf Kind gave before now
  one_of before now event reply is answered = record {
    exchanges = exchange event reply ∷ [];
    kind = All-cons is_kind (exchange event reply) [] is (All-nil is_kind);
    answered = answered;
  }

  -- more was asked after that
  pub both_of : (before mid now : Option (List PlainExchange)) → AreAllOf Kind gave before mid → AreAllOf Kind gave mid now
      → AreAllOf Kind gave before now
  both_of before mid now x y = record {
    exchanges = x.exchanges ++ y.exchanges;
    kind = All-append is_kind x.exchanges y.exchanges x.kind y.kind;
    answered = both_answered gave before mid now x.exchanges y.exchanges x.answered y.answered;
  }

  pub kept_of : (before mid now : Option (List PlainExchange)) → AreAllOf Kind gave before mid → AreAnswered gave mid now []
      → AreAllOf Kind gave before now
  kept_of before mid now x answered = both_of before mid now x (unasked_of mid now answered)

  pub more_of : (before mid now : Option (List PlainExchange)) (event : HostEvent) (reply : HostReply) → AreAllOf Kind gave before mid
      → Kind event → AreAnswered gave mid now (exchange event reply ∷ []) → AreAllOf Kind gave before now
  more_of before mid now event reply x is answered = both_of before mid now x (one_of mid now event reply is answered)

-- copies are what a mover asks for
pub copies_of : (gave : Answers) (to : ℕ) (policy : Policy) (before now : Option (List PlainExchange)) → AreAllOf IsCopy gave before now
    → AreAllOf (IsOfCopier to policy) gave before now
copies_of gave to policy before now x = record {
  exchanges = x.exchanges;
  kind = All-weaker (λ y. IsCopy y.event) (λ y. IsOfCopier to policy y.event)
      (λ y is. subst (IsOfCopier to policy) (sym is) tt) x.exchanges x.kind;
  answered = x.answered;
}
