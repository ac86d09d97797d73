-- What is kept of the events that happen at a host.
use Rattle.std.specs.Prelude.{◌≡◌, ⊤, ℕ, zero, suc, ◌+◌, ◌%◌, List, [], ◌∷◌, ◌++◌, Option, None, Some}
use Rattle.rvm_message.specs.declared.event.HostEvent.{HostEvent}
use Rattle.rvm_message.specs.Exchanges.{step_of_hart}

-- nothing was kept yet, or it is not known what was
abbrev pub IsEmpty : Option (List HostEvent) → Type 0
IsEmpty None = ⊤
IsEmpty (Some events) = events ≡ []

-- these events were kept after those before them; once not all were kept, it stays so
abbrev pub KeepsOn : (old new : Option (List HostEvent)) → List HostEvent → Type 0
KeepsOn None new events = new ≡ None
KeepsOn (Some old) None events = ⊤
KeepsOn (Some old) (Some new) events = new ≡ old ++ events

-- the events of n turns of this many harts, one after the other, from turn `turn` on
unfoldable pub steps_from : (turn harts n : ℕ) → List HostEvent
steps_from turn harts zero = []
steps_from turn harts (suc n) = step_of_hart (turn % harts) ∷ steps_from (turn + 1) harts n
