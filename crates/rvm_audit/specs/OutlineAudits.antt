-- How an audit ends of journals of which only the frames are kept.
use Rattle.std.specs.Prelude.{◌≡◌, ℕ, List, Some, slice_get}
use Rattle.rvm_core.specs.declared.event.Event.{Event}
use Rattle.rvm_audit.specs.Orders.{IsDeadEnd, IsOrder, Journals, cut}
use Rattle.rvm_audit.specs.Parts.{IsSized, entries_in, taken}
use Rattle.rvm_audit.specs.PlainParts.{PlainPart}
use Rattle.rvm_audit.specs.Outlines.{PlainOutline}
use Rattle.rvm_audit.specs.declared.outline.OutlineAudit.{OutlineAudit}
use Rattle.rvm_audit.specs.declared.outline.OutlineAudit.TheVariants.{NoOrder, Ordered}

-- the journals have an order, or the audit ended at a dead end, up to which they have one
abbrev pub IsOutlineAudit : Journals → OutlineAudit → Type 0
IsOutlineAudit j Ordered = (events : List Event) × IsOrder j events
IsOutlineAudit j (NoOrder places) =
    IsDeadEnd j (taken places.items) × ((events : List Event) × IsOrder (cut (taken places.items) j) events)

-- a part is what is gone through of an outline
pub record IsPartOf (t : PlainOutline) (part : PlainPart) : Type 0 where
  pub version_is : part.version ≡ t.version
  pub entries_are : entries_in part ≡ t.entries
  pub sized : IsSized part

-- each part is what is gone through of the outline with its number
abbrev pub ArePartsOf : List PlainOutline → List PlainPart → Type 0
ArePartsOf ts parts =
    (x : ℕ) (part : PlainPart) → slice_get parts x ≡ Some part → (t : PlainOutline) × (slice_get ts x ≡ Some t) × IsPartOf t part
