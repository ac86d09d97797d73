-- What an audit of journals in files found, and the status that says so.
use Rattle.std.specs.Prelude.{◌≡◌, ◌⊎◌, ⊤, ℕ, ◌≤◌, zero, suc, ◌&&◌, not, Bool, List, [], ◌∷◌, ◌++◌, codes, length, map, Option, None, Some, slice_get}
use Rattle.std.specs.Io.KnownBytes.{Appends}
use Rattle.std.specs.List.{list_any}
use Rattle.rvm_audit.specs.Cuts.{AreContradicted, AreExplained}
use Rattle.rvm_audit.specs.Orders.{IsDeadEnd, IsOrder, cut}
use Rattle.rvm_audit.specs.Parts.{taken}
use Rattle.rvm_audit.specs.Rule.{IsMerge}
use Rattle.rvm_command.specs.Refusals.{IsTold, refused}
use Rattle.rvm_core.specs.declared.event.Event.{Event}
use Rattle.rvm_journal.specs.Headers.{header_at}
use Rattle.rvm_journal.specs.Replaying.{is_whole}
use Rattle.rvm_recorder.specs.History.{History, Recording, count_of}
use Rattle.rvm_replay.specs.Behind.{most_replayed}
use Rattle.rvm_command.specs.Command.{refused_text}
use Rattle.rvm_refusal.specs.declared.refusal.Refusal.TheVariants.{LinkFault, NoOrder, OutOfMemory}
use Rattle.rvm_replay.specs.Audited.{AreAudited, AreReplayed, IsOrdered, is_wanted, journals_in}
use Rattle.rvm_replay.specs.FileFaults.{fault_line}
use Rattle.rvm_replay.specs.PlaceLines.{place_lines}
use Rattle.rvm_replay.specs.Unaudited.{IsJournalsFault}
use Rattle.rvm_replay.specs.declared.audit.AuditText.{AuditText}
use Rattle.rvm_replay.specs.declared.audit.AuditText.TheVariants.{Chart, Order, Summary}
use Rattle.rvm_replay.specs.declared.audit.Extent.{Extent}
use Rattle.rvm_replay.specs.declared.audit.OrderText.{OrderText}
use Rattle.rvm_replay.specs.declared.audit.OrderText.TheVariants.{Events, Chart as OrderChart}
use Rattle.rvm_replay.specs.declared.audit.Finding.{Finding}
use Rattle.rvm_replay.specs.declared.audit.Finding.TheVariants.{InOrder, Unordered as NotInOrder}
use Rattle.rvm_replay.specs.declared.audit.Unordered.{Unordered}
use Rattle.rvm_replay.specs.declared.audit.Unordered.TheVariants.{Contradicted, Undecided}
use Rattle.rvm_replay.specs.Journals.{JournalText, names_in}
use Rattle.rvm_replay.specs.declared.file.JournalsFault.{JournalsFault}
use Rattle.rvm_replay.specs.declared.file.JournalsFault.TheVariants as journals
use Rattle.rvm_replay.specs.declared.headers.Wanted.TheVariants.{OfHost}

-- whether a journal is that of a host, and was cut off
abbrev pub is_cut_of : (host : ℕ) → JournalText → Bool
is_cut_of x file = is_wanted (OfHost x) (header_at file.text) && not (is_whole file.text)

-- whether one of these journals is that of a host, and was cut off
abbrev pub is_cut : List JournalText → (host : ℕ) → Bool
is_cut files x = list_any (is_cut_of x) files

-- for each of this many hosts, whether its journal was cut off
abbrev pub cuts_of : List JournalText → (hosts : ℕ) → List Bool
cuts_of files zero = []
cuts_of files (suc x) = cuts_of files x ++ is_cut files x ∷ []

-- what these hosts recorded
abbrev pub histories_in : List Recording → List History
histories_in all = map (λ r. r.journal) all

-- the journals of these hosts have an order up to these places, and none of all
pub record EndsAt (all : List Recording) (places : ℕ → ℕ) : Type 0 where
  pub dead : IsDeadEnd (journals_in all) places
  pub events : List Event
  pub order : IsOrder (cut places (journals_in all)) events

-- the report that the journals of these hosts contradict one another: up to which places they have an order, and the refusal
abbrev pub refuted_text : List JournalText → List Recording → (places : ℕ → ℕ) → List ℕ
refuted_text files all places = place_lines files places 0 (map count_of all) ++ (refused_text (refused NoOrder) ++ codes "\n")

-- the report that what was cut off may explain that there is no order beyond these places
abbrev pub undecided_text : List JournalText → List Recording → (places : ℕ → ℕ) → List ℕ
undecided_text files all places =
    place_lines files places 0 (map count_of all) ++ (codes "undecided: what was cut off may have sent the rest" ++ codes "\n")

-- the journals of these hosts contradict one another, whatever was cut off, which was reported
pub record AreRefuted (files : List JournalText) (all : List Recording) (errors errors' : Option (List ℕ)) : Type 0 where
  pub places : ℕ → ℕ
  pub ends : EndsAt all places
  pub contradicted : AreContradicted (histories_in all) (cuts_of files (length all))
  pub told : Appends errors errors' (refuted_text files all places)

-- the journals of these hosts have no order, and what was cut off may explain that, which was reported
pub record AreUndecided (files : List JournalText) (all : List Recording) (errors errors' : Option (List ℕ)) : Type 0 where
  pub places : ℕ → ℕ
  pub ends : EndsAt all places
  pub explained : AreExplained (histories_in all) (cuts_of files (length all))
  pub told : Appends errors errors' (undecided_text files all places)

-- how far the journals of these hosts have an order, which have none of all: up to these places; and how many events each has
pub record IsExtent (all : List Recording) (extent : Extent) : Type 0 where
  pub ends : EndsAt all (taken extent.places.items)
  pub counts_are : extent.counts.items ≡ map count_of all

-- why the journals of these hosts have no order
abbrev pub IsUnordered : List JournalText → List Recording → Unordered → Type 0
IsUnordered files all (Contradicted extent) =
    IsExtent all extent × AreContradicted (histories_in all) (cuts_of files (length all))
IsUnordered files all (Undecided extent) =
    IsExtent all extent × AreExplained (histories_in all) (cuts_of files (length all))

-- how far journals have an order
abbrev pub extent_of : Unordered → Extent
extent_of (Contradicted extent) = extent
extent_of (Undecided extent) = extent

-- there are no more journals than hosts of a world, if they have no order
abbrev pub HasFew : Finding → Type 0
HasFew (InOrder order) = ⊤
HasFew (NotInOrder why) = length (extent_of why).counts.items ≤ 8

-- the journals of these hosts have an order, or this is why they have none
abbrev pub IsWhyUnordered : List JournalText → List Recording → Option Unordered → Type 0
IsWhyUnordered files all None = (events : List Event) × IsOrder (journals_in all) events
IsWhyUnordered files all (Some why) = IsUnordered files all why

-- what was found of the journals of these hosts
abbrev pub IsFinding : List JournalText → List Recording → Finding → Type 0
IsFinding files all (InOrder order) = IsMerge (journals_in all) order
IsFinding files all (NotInOrder why) = IsUnordered files all why

-- by its status, why the journals of these hosts have no order, which was reported
abbrev pub HasNoOrder : (status : ℕ) → List JournalText → List Recording → (errors errors' : Option (List ℕ)) → Type 0
HasNoOrder (suc zero) files all errors errors' = AreRefuted files all errors errors'
HasNoOrder (suc (suc (suc zero))) files all errors errors' = AreUndecided files all errors errors'
HasNoOrder status files all errors errors' = ⊥

-- that report is not complete, since a write to the errors failed: errors that held nothing would hold it
abbrev pub IsUntoldNoOrder : List JournalText → List Recording → Type 0
IsUntoldNoOrder files all = (status : ℕ) × (report : List ℕ) × HasNoOrder status files all (Some []) (Some report)

-- why what was found has the status 1, and what was written and reported then: the journals contradict one another, memory
-- ran out, or a write failed
abbrev pub IsRefusedFinding : List JournalText → List Recording → (out out' errors errors' : Option (List ℕ)) → Type 0
IsRefusedFinding files all out out' errors errors' =
    (AreRefuted files all errors errors' × (out' ≡ out))
    ⊎ ((IsTold (refused OutOfMemory) errors errors' × (out' ≡ out)) ⊎ IsTold (refused LinkFault) errors errors')

-- what was found of the journals of these hosts, by the status, and what was written and reported
abbrev pub HasFindingStatus : (status : ℕ) → List JournalText → List Recording → AuditText
    → (out out' errors errors' : Option (List ℕ)) → Type 0
HasFindingStatus zero files all text out out' errors errors' = IsOrdered text all out out' × (errors' ≡ errors)
HasFindingStatus (suc zero) files all text out out' errors errors' = IsRefusedFinding files all out out' errors errors'
HasFindingStatus (suc (suc (suc zero))) files all text out out' errors errors' =
    AreUndecided files all errors errors' × (out' ≡ out)
HasFindingStatus status files all text out out' errors errors' = ⊥

-- a report of what was found of the journals of these hosts is not complete, since a write to the errors failed: errors
-- that held nothing would hold it
abbrev pub IsUntoldFinding : List JournalText → List Recording → AuditText → (out out' : Option (List ℕ)) → Type 0
IsUntoldFinding files all text out out' =
    (status : ℕ) × (report : List ℕ) × HasFindingStatus status files all text out out' (Some []) (Some report)

-- the hosts of a world did what their journals tell, and what was found of that has the status 1
pub record AreNotInOrder (files : List JournalText) (image : List ℕ) (out out' errors errors' : Option (List ℕ)) : Type 0 where
  pub all : List Recording
  pub replayed : AreReplayed files image all
  pub found : IsRefusedFinding files all out out' errors errors'

-- the name under which a journal is reported
abbrev pub name_of : Option (List ℕ) → List ℕ
name_of None = codes "journal"
name_of (Some name) = name

-- why journals in files with these names are not audited was reported
abbrev pub IsFaultTold : (names : List (List ℕ)) → JournalsFault → (errors errors' : Option (List ℕ)) → Type 0
IsFaultTold names journals.OutOfMemory errors errors' = IsTold (refused OutOfMemory) errors errors'
IsFaultTold names journals.NoGuest errors errors' =
    Appends errors errors' (codes "no journal begins with a guest" ++ codes "\n")
IsFaultTold names (journals.File i fault) errors errors' =
    Appends errors errors' (fault_line (name_of (slice_get names i)) fault)

-- the journals are not audited for this reason, which was reported; a host takes `capacity` events at most
pub record AreNotAudited (capacity : ℕ) (files : List JournalText) (image : List ℕ) (out out' errors errors' : Option (List ℕ))
    : Type 0 where
  pub fault : JournalsFault
  pub reason : IsJournalsFault capacity files image fault
  pub told : IsFaultTold (names_in files) fault errors errors'
  pub same : out' ≡ out

-- the hosts of a world did what their journals tell; that has no order, and what was cut off may explain it
pub record AreOpen (files : List JournalText) (image : List ℕ) (out out' errors errors' : Option (List ℕ)) : Type 0 where
  pub all : List Recording
  pub replayed : AreReplayed files image all
  pub undecided : AreUndecided files all errors errors'
  pub same : out' ≡ out

-- what is asked for of the order
abbrev pub text_of : OrderText → AuditText
text_of Events = Order
text_of OrderChart = Chart

-- how many events a host takes, by what is asked for: an order needs all that it answered
abbrev pub capacity_of : AuditText → ℕ
capacity_of Summary = most_replayed
capacity_of Order = 4294967295
capacity_of Chart = 4294967295

-- what an audit of journals found, by its status, and what was written and reported
abbrev pub HasAuditStatus : (status : ℕ) → List JournalText → (image : List ℕ) → AuditText
    → (out out' errors errors' : Option (List ℕ)) → Type 0
HasAuditStatus zero files image text out out' errors errors' =
    AreAudited files image text out out' × (errors' ≡ errors)
HasAuditStatus (suc zero) files image text out out' errors errors' =
    AreNotAudited (capacity_of text) files image out out' errors errors' ⊎ AreNotInOrder files image out out' errors errors'
HasAuditStatus (suc (suc (suc zero))) files image text out out' errors errors' =
    AreOpen files image out out' errors errors'
HasAuditStatus status files image text out out' errors errors' = ⊥

-- a report of an audit is not complete, since a write to the errors failed: errors that held nothing would hold it
abbrev pub IsUntoldAudit : List JournalText → (image : List ℕ) → AuditText → (out out' : Option (List ℕ)) → Type 0
IsUntoldAudit files image text out out' =
    (status : ℕ) × (report : List ℕ) × HasAuditStatus status files image text out out' (Some []) (Some report)
