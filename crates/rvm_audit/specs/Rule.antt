-- The rule of a merge, for the journals of any number of hosts: at each point the lowest host goes on whose next entry
-- can stand, and a frame that comes is the lowest one of its bytes.
use Rattle.std.specs.Prelude.{◌≡◌, ℕ, ◌<◌, ◌≤◌, List, [], ◌∷◌, ◌++◌, length, slice_get}
use Rattle.rvm_recorder.specs.Entries.{PlainEntry}
use Rattle.rvm_core.specs.declared.event.Event.{Event}
use Rattle.rvm_core.specs.declared.event.Event.TheVariants.{At, Deliver}
use Rattle.rvm_audit.specs.Hosts.{HostEntry, Hosts, IsEvent, Openings, after, entries_at, opened}
use Rattle.rvm_audit.specs.Orders.{IsOrder, IsStuck, Journals, cut}

-- no frame below place k has the maker and the bytes of frame k
abbrev pub IsLowestAt : Hosts → Event → Type 0
IsLowestAt w (At host c) = Unit {0}
IsLowestAt w (Deliver k) = (j : ℕ) → j < k → slice_get w.made j ≡ slice_get w.made k → ⊥

-- from these opening hosts
module _ (openings : Openings) where
  -- each frame that comes in a run is the lowest one of its bytes
  abbrev pub AllLowest : Hosts → List Event → List HostEntry → Type 0
  AllLowest w [] ss = Unit {0}
  AllLowest w (e ∷ es) [] = Unit {0}
  AllLowest w (e ∷ es) (s ∷ ss) = IsLowestAt w e × AllLowest (after openings w s.0 s.1) es ss

  -- host x has a next entry, and no event of the world is its event; or it has none
  abbrev pub CannotStand : Hosts → (x : ℕ) → List PlainEntry → Type 0
  CannotStand w x [] = Unit {0}
  CannotStand w x (n ∷ ns) = (e : Event) → IsEvent openings w e x n.event → ⊥

  -- host x is the one that goes on: the next of the entries that are left to each lower host cannot stand
  abbrev pub IsTurn : Hosts → (x : ℕ) → (left : ℕ → List PlainEntry) → Type 0
  IsTurn w x left = (y : ℕ) → y < x → CannotStand w y (left y)

  -- at each point of this sequence the host that goes on is the right one; after it the hosts have `rest` left
  abbrev pub AllTurns : Hosts → List HostEntry → (rest : ℕ → List PlainEntry) → Type 0
  AllTurns w [] rest = Unit {0}
  AllTurns w (s ∷ ss) rest =
      IsTurn w s.0 (λ y. entries_at y (s ∷ ss) ++ rest y) × AllTurns (after openings w s.0 s.1) ss rest

-- the events are the order of the rule
pub record IsMerge (j : Journals) (events : List Event) : Type 0 where
  pub order : IsOrder j events
  pub lowest : AllLowest j.openings (opened j.openings) events order.sequence
  pub turns : AllTurns j.openings (opened j.openings) order.sequence (λ x. [])

-- the end of a merge: these events are an order of what was taken of the journals, the order of the rule if all was
-- taken, and no journal can go on
pub record IsEnd (j : Journals) (places : ℕ → ℕ) (events : List Event) : Type 0 where
  pub within : (x : ℕ) → x < j.openings.count → places x ≤ length (j.entries x)
  pub order : IsOrder (cut places j) events
  pub merge : ((x : ℕ) → x < j.openings.count → places x ≡ length (j.entries x)) → IsMerge j events
  pub stuck : (x : ℕ) → x < j.openings.count → IsStuck j places x
