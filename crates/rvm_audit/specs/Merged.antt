-- How far a merge has come.
use Rattle.std.specs.Prelude.{◌≡◌, ℕ, ◌≤◌, ◌<◌, List, ◌∷◌, take, drop, length, None, Some, slice_get}
use Rattle.rvm_core.specs.declared.event.Event.{Event}
use Rattle.rvm_audit.specs.Hosts.{HostEntry, IsRun, Made, after_all, entries_at, opened}
use Rattle.rvm_audit.specs.Orders.{Journals}
use Rattle.rvm_audit.specs.Merging.{Places}
use Rattle.rvm_audit.specs.Rule.{AllLowest, AllTurns}

-- the places are those of all frames that were made, for each maker and bytes the lowest one
pub record IsIndex (made : List Made) (places : Places) : Type 0 where
  pub found : (x : ℕ) (bytes : List ℕ) (k : ℕ) → places (x ∷ bytes) ≡ Some k → slice_get made k ≡ Some (x, bytes)
  pub lowest : (x : ℕ) (bytes : List ℕ) (k j : ℕ) → places (x ∷ bytes) ≡ Some k → j < k
      → slice_get made j ≡ Some (x, bytes) → ⊥
  pub all : (x : ℕ) (bytes : List ℕ) (j : ℕ) → places (x ∷ bytes) ≡ None → slice_get made j ≡ Some (x, bytes) → ⊥

-- these events are an order by the rule of the first `at x` entries of each host x, and these are the places of their
-- frames, of which there are `count`
pub record Merged (j : Journals) (at : ℕ → ℕ) (events : List Event) (places : Places) (count : ℕ) : Type 0 where
  pub within : (x : ℕ) → x < j.openings.count → at x ≤ length (j.entries x)
  pub sequence : List HostEntry
  pub run : IsRun j.openings (opened j.openings) events sequence
  pub lowest : AllLowest j.openings (opened j.openings) events sequence
  pub turns : AllTurns j.openings (opened j.openings) sequence (λ x. drop (at x) (j.entries x))
  pub entries : (x : ℕ) → x < j.openings.count → entries_at x sequence ≡ take (at x) (j.entries x)
  pub index : IsIndex (after_all j.openings (opened j.openings) sequence).made places
  pub count_is : length (after_all j.openings (opened j.openings) sequence).made ≡ count
