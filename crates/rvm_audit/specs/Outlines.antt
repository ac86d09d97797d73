-- Journals of which only the frames are kept, and how an audit of them ends.
use Rattle.std.specs.Prelude.{◌≡◌, ℕ, List, [], Some, get_or, length, map, slice_get}
use denote.Ref.{Bor}
use Rattle.rvm_recorder.specs.Entries.{PlainEntry}
use Rattle.rvm_recorder.specs.History.{History}
use Rattle.rvm_recorder.specs.Replay.{IsReplay}
use Rattle.rvm_audit.specs.ListOrders.{no_history}

-- what is kept of a journal: the version of its host's streams, and its entries, of which only contracts see more than the
-- frames
pub record PlainOutline : Type 0 where
  pub version : ℕ
  pub entries : List PlainEntry

-- this is kept of a journal
pub record IsOutlineOf (h : History) (t : PlainOutline) : Type 0 where
  pub version_is : t.version ≡ h.opening.version
  pub entries_are : t.entries ≡ h.entries
  pub replay : IsReplay h.opening h.entries

-- this is kept of each journal of a list, by its number
pub record AreOutlinesOf (hs : List History) (ts : List PlainOutline) : Type 0 where
  pub count_is : length hs ≡ length ts
  pub each : (x : ℕ) (t : PlainOutline) → slice_get ts x ≡ Some t → IsOutlineOf (get_or hs x no_history) t

-- what stands for the outline of a number that a list does not have
abbrev pub no_outline : PlainOutline
no_outline = record { version = 0; entries = [] }

-- the entries of the outline with this number
abbrev pub entries_at : List PlainOutline → (x : ℕ) → List PlainEntry
entries_at ts x = (get_or ts x no_outline).entries

-- the outlines that these references are to
abbrev pub outlines_in : List (Bor PlainOutline) → List PlainOutline
outlines_in outlines = map (λ t. t.now) outlines
