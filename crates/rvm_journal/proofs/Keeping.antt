-- What is kept after one more event.
use Rattle.std.proofs.Common.{◌≡◌, List, [], ◌++◌, Option, Some, None, ap, refl, subst, sym, ◌∙◌}
use Rattle.std.proofs.lemmas.List.{append-nil}
use Rattle.rvm_message.specs.declared.event.HostEvent.{HostEvent}
use Rattle.rvm_station.specs.Logs.{KeepsOn}
use Rattle.rvm_journal.specs.Written.{with_more}

more : (old : Option (List HostEvent)) (events : List HostEvent) → KeepsOn old (with_more old events) events
more None events = refl
more (Some old) events = refl

pub keeps_on : (old new : Option (List HostEvent)) (events : List HostEvent) → new ≡ with_more old events
    → KeepsOn old new events
keeps_on old new events is = subst (λ o. KeepsOn old o events) (sym is) (more old events)

-- nothing is known once not all was kept
pub lost : (old : Option (List HostEvent)) (events : List HostEvent) → KeepsOn old None events
lost None events = refl
lost (Some old) events = tt

-- all that was kept before is kept
pub keeps_all : (old new : Option (List HostEvent)) → new ≡ old → KeepsOn old new []
keeps_all None new is = is
keeps_all (Some old) None is = tt
keeps_all (Some old) (Some new) is = subst (λ o. KeepsOn (Some old) o []) (sym is) (sym (append-nil old))

-- what waits for its line, and then nothing more
pub nothing_more : (known : Option (List HostEvent)) (waits : List HostEvent)
    → with_more (with_more (with_more known waits) []) [] ≡ with_more known waits
nothing_more None waits = refl
nothing_more (Some old) waits = ap Some (append-nil ((old ++ waits) ++ []) ∙ append-nil (old ++ waits))
