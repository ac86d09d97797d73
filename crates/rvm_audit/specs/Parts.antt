-- What a merge reads of each journal, and how much of it was taken.
use Rattle.std.specs.Prelude.{◌≡◌, ℕ, ◌<◌, ◌≤◌, ◌^◌, List, drop, get_or, length, slice_get, Some}
use Rattle.rvm_host.specs.Hosts.{PlainHost}
use Rattle.rvm_recorder.specs.Entries.{PlainEntry}
use Rattle.rvm_recorder.specs.Items.{all_of}
use Rattle.rvm_recorder.specs.Replay.{IsReplay}
use Rattle.rvm_audit.specs.Orders.{Journals}
use Rattle.rvm_audit.specs.declared.merge.Merge.{Merge}
use Rattle.rvm_audit.specs.PlainParts.{PlainPart}
use Rattle.rvm_audit.specs.declared.part.Place.{Place}
use Rattle.rvm_audit.specs.Merged.{Merged}
use Rattle.rvm_audit.specs.Merging.{IsWaiting, Places, places_of}

-- the entries of a part
abbrev pub entries_in : PlainPart → List PlainEntry
entries_in part = all_of part.items.now

-- a part is what a merge reads of the journal with this opening host and these entries
pub record IsOf (opening : PlainHost) (entries : List PlainEntry) (part : PlainPart) : Type 0 where
  pub version_is : part.version ≡ opening.version
  pub entries_are : entries_in part ≡ entries
  pub replay : IsReplay opening entries

-- the parts are what a merge reads of these journals, by number
pub record AreOf (j : Journals) (parts : List PlainPart) : Type 0 where
  pub count_is : j.openings.count ≡ length parts
  pub each : (x : ℕ) (part : PlainPart) → slice_get parts x ≡ Some part → IsOf (j.openings.host x) (j.entries x) part

-- a part has no more items and entries than a journal can have
pub record IsSized (part : PlainPart) : Type 0 where
  pub items : length part.items.now < 2 ^ 63
  pub entries : length (entries_in part) < 2 ^ 64

-- each part has no more items and entries than a journal can have
abbrev pub AreSized : List PlainPart → Type 0
AreSized parts = (x : ℕ) (part : PlainPart) → slice_get parts x ≡ Some part → IsSized part

-- how much of part x was taken
abbrev pub place_at : List Place → (x : ℕ) → Place
place_at places x = get_or places x (record { items = 0; entries = 0 })

-- how many entries of part x were taken
abbrev pub taken : List Place → (x : ℕ) → ℕ
taken places x = (place_at places x).entries

-- a part was taken up to a place: this many items, which have this many entries together
pub record IsAt (part : PlainPart) (place : Place) : Type 0 where
  pub within : place.entries ≤ length (entries_in part)
  pub left : all_of (drop place.items part.items.now) ≡ drop place.entries (entries_in part)

-- the parts are merged up to these places
pub record Stands (parts : List PlainPart) (places : List Place) (m : Merge) : Type 0 where
  pub long : length places ≡ length parts
  pub each : (x : ℕ) (part : PlainPart) → slice_get parts x ≡ Some part → IsAt part (place_at places x)
  pub merged : (j : Journals) → AreOf j parts → Merged j (taken places) m.order (places_of m.places) m.made

-- the hosts below n wait: each has no next entry, or one that cannot stand
abbrev pub AllWait : List PlainPart → List Place → Places → (n : ℕ) → Type 0
AllWait parts places made n =
    (x : ℕ) (part : PlainPart) → x < n → slice_get parts x ≡ Some part
    → IsWaiting part.version (length parts) x (entries_in part) (taken places x) made
