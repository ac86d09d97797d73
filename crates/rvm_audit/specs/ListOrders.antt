-- Orders of the journals of a list, and of two.
use Rattle.std.specs.Prelude.{ℕ, List, [], ◌∷◌, None, get_or, length}
use Rattle.rvm_host.specs.Hosts.{new_host}
use Rattle.rvm_recorder.specs.History.{History}
use Rattle.rvm_core.specs.declared.event.Event.{Event}
use Rattle.rvm_audit.specs.Orders.{Journals}
use Rattle.rvm_audit.specs.Orders as every
use Rattle.rvm_audit.specs.Rule as rule

-- what stands for the journal of a number that a list does not have
abbrev pub no_history : History
no_history = record { opening = new_host None 0 0 0 0; entries = []; reserved = 0 }

-- the journals of a list, by number
abbrev pub journals_of : List History → Journals
journals_of hs = record {
  openings = record { count = length hs; host = λ x. (get_or hs x no_history).opening };
  entries = λ x. (get_or hs x no_history).entries;
}

-- two journals, by number
abbrev pub both : (a b : History) → Journals
both a b = journals_of (a ∷ b ∷ [])

-- a run from the two opening hosts whose events at each host are the entries of its journal, with their replies and
-- frames, and which ends where their replays end
abbrev pub IsOrder : (a b : History) → List Event → Type 0
IsOrder a b events = every.IsOrder (both a b) events

-- the events are the order of the rule
abbrev pub IsMerge : (a b : History) → List Event → Type 0
IsMerge a b events = rule.IsMerge (both a b) events

-- neither journal can go on after its first i and j entries, and one of them is not at its end
abbrev pub IsDeadEnd : (a b : History) → (i j : ℕ) → Type 0
IsDeadEnd a b i j = every.IsDeadEnd (both a b) (λ x. get_or (i ∷ j ∷ []) x 0)
