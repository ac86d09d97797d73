-- The audit of the journals of a list.
use Rattle.std.specs.Prelude.{◌≡◌, ℕ, List, get_or, map, slice_get, Some}
use denote.Ref.{Bor}
use Rattle.rvm_recorder.specs.Entries.{PlainEntry}
use Rattle.rvm_recorder.specs.History.{History}
use Rattle.rvm_core.specs.declared.event.Event.{Event}
use Rattle.rvm_audit.specs.Orders.{IsDeadEnd, IsOrder, Journals, cut}
use Rattle.rvm_audit.specs.declared.list.Audit.{Audit}
use Rattle.rvm_audit.specs.declared.list.Audit.TheVariants.{NoOrder, Order}
use Rattle.rvm_audit.specs.PlainParts.{PlainPart}
use Rattle.rvm_audit.specs.ListOrders.{no_history}
use Rattle.rvm_audit.specs.Parts.{IsOf, IsSized, taken}
use Rattle.rvm_audit.specs.Rule.{IsMerge}

-- the journals that these references are to
abbrev pub histories_of : List (Bor History) → List History
histories_of journals = map (λ journal. journal.now) journals

-- the entries of the journal with this number
abbrev pub entries_of : List History → (x : ℕ) → List PlainEntry
entries_of hs x = (get_or hs x no_history).entries

-- an audit of these journals ended in the order of the rule, or at a dead end, up to which they have an order
abbrev pub IsAudit : Journals → Audit → Type 0
IsAudit j (Order order) = IsMerge j order
IsAudit j (NoOrder places) =
    IsDeadEnd j (taken places.items) × ((events : List Event) × IsOrder (cut (taken places.items) j) events)

-- each of these parts is what a merge reads of the journal with its number
abbrev pub ArePartsOf : List History → List PlainPart → Type 0
ArePartsOf hs parts =
    (x : ℕ) (part : PlainPart) → slice_get parts x ≡ Some part
    → IsSized part × IsOf (get_or hs x no_history).opening (entries_of hs x) part
