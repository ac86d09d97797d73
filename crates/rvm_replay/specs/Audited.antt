-- Journals of the hosts of a world, in files: whose they are, what the hosts did, and the order of all of it.
use Rattle.std.specs.Prelude.{◌≡◌, ◌⊎◌, ℕ, ◌<◌, ◌==◌, Bool, true, false, is_some, List, [], length, map, slice_get, Option, Some, None}
use Rattle.std.specs.Io.KnownBytes.{Appends}
use Rattle.rvm_board.specs.Guest.{GuestState}
use Rattle.rvm_guest.specs.TheGuest.{board}
use Rattle.rvm_protocol.specs.World.{new_world}
use Rattle.rvm_host.specs.Hosts.{new_host}
use Rattle.rvm_recorder.specs.History.{Recording}
use Rattle.rvm_audit.specs.ListOrders.{journals_of}
use Rattle.rvm_audit.specs.Orders.{IsOrder, Journals}
use Rattle.rvm_audit.specs.Rule.{IsMerge}
use Rattle.rvm_audit.specs.Worlds.{IsWorldRun}
use Rattle.rvm_core.specs.declared.event.Event.{Event}
use Rattle.rvm_core.specs.EventLines.{event_lines}
use Rattle.rvm_journal.specs.declared.header.Header.{Header}
use Rattle.rvm_replay.specs.declared.audit.AuditText.{AuditText}
use Rattle.rvm_replay.specs.declared.audit.AuditText.TheVariants.{Chart, Order, Summary}
use Rattle.rvm_replay.specs.declared.headers.Wanted.{Wanted}
use Rattle.rvm_replay.specs.declared.headers.Wanted.TheVariants.{OfHost, WithGuest}
use Rattle.rvm_replay.specs.Charts.{chart_of}
use Rattle.rvm_replay.specs.Counts.{summary_of}
use Rattle.rvm_replay.specs.Journals.{Headers, IsGuestNamed, IsHostOf, JournalText, header_number, headers_in}
use Rattle.rvm_replay.specs.Meetings.{HaveMet}

-- whether a journal is wanted, by its header: the one whose host began with a guest, or that of a host
abbrev pub is_wanted : Wanted → Option Header → Bool
is_wanted w None = false
is_wanted WithGuest (Some h) = is_some h.guest
is_wanted (OfHost x) (Some h) = h.host == x

-- the one index below n that has a property, or none if no index below n has it
abbrev pub IsOnly : (has : ℕ → Bool) → (n : ℕ) → Option ℕ → Type 0
IsOnly has n None = (i : ℕ) → i < n → has i ≡ false
IsOnly has n (Some k) = (k < n) × (has k ≡ true) × ((i : ℕ) → i < n → has i ≡ true → i ≡ k)

-- the index of the one header that is wanted, or none if no header is
abbrev pub IsOnlyOne : Headers → Wanted → Option ℕ → Type 0
IsOnlyOne hs w found = IsOnly (λ i. is_wanted w (hs.at i)) hs.count found

-- no two headers are of one host
abbrev pub AreOnce : Headers → (n : ℕ) → Type 0
AreOnce hs n = (x : ℕ) → x < n → (found : Option ℕ) × IsOnlyOne hs (OfHost x) found

-- the header with this index tells this number of hosts, of which its own is one; and this number of the world, or 0, as each
-- host tells that began without a guest
pub record HasHeaderOf (hs : Headers) (hosts world index : ℕ) : Type 0 where
  pub header : Header
  pub header_is : hs.at index ≡ Some header
  pub hosts_are : header.hosts ≡ hosts
  pub there : header.host < hosts
  pub world_is : (header.world ≡ 0) ⊎ (header.world ≡ world)

-- the first n headers tell so
abbrev pub HaveHeadersOf : Headers → (n hosts world : ℕ) → Type 0
HaveHeadersOf hs n hosts world = (index : ℕ) → index < n → HasHeaderOf hs hosts world index

-- the headers are those of hosts of one world, which has this many: one of them, and no other, is of a host that began with
-- a guest, and it is this one; the others agree with it; and no two are of one host
pub record AreOfOneWorld (hs : Headers) (hosts : ℕ) (opening : Header) : Type 0 where
  pub first : ℕ
  pub one_guest : IsOnlyOne hs WithGuest (Some first)
  pub opening_is : hs.at first ≡ Some opening
  pub headers : HaveHeadersOf hs hs.count hosts opening.world
  pub once : AreOnce hs 8

-- the journals are those of hosts of one world, which has this many: so their headers tell, and the hosts that they tell to
-- have been met are these
pub record AreOfWorld (files : List JournalText) (hosts : ℕ) : Type 0 where
  pub opening : Header
  pub one_world : AreOfOneWorld (headers_in files) hosts opening
  pub met : HaveMet files (length files) opening.world

-- a host that has no journal began without a guest, and did nothing
pub record IsIdle (hosts host : ℕ) (r : Recording) : Type 0 where
  pub opening : r.journal.opening ≡ new_host None host hosts 4096 3
  pub nothing : r.journal.entries ≡ []

-- a host began as the header of the journal with this index says, and did what that journal tells
pub record IsHostAt (files : List JournalText) (image : List ℕ) (index : ℕ) (r : Recording) : Type 0 where
  pub header : Header
  pub file : JournalText
  pub header_is : header_number files index ≡ Some header
  pub file_is : slice_get files index ≡ Some file
  pub host : IsHostOf header file.text image r

-- a host did what its journal tells, which has this index; or it has none, and did nothing
abbrev pub IsHostBy : List JournalText → (image : List ℕ) → (hosts host : ℕ) → Option ℕ → Recording → Type 0
IsHostBy files image n x None r = IsIdle n x r
IsHostBy files image n x (Some index) r = IsHostAt files image index r

-- a host did what the one journal of it tells, or has none, and did nothing
pub record HasDone (files : List JournalText) (image : List ℕ) (hosts host : ℕ) (r : Recording) : Type 0 where
  pub found : Option ℕ
  pub only : IsOnlyOne (headers_in files) (OfHost host) found
  pub done : IsHostBy files image hosts host found r

-- each of these hosts, by number, did what its journal tells
abbrev pub AllDone : List JournalText → (image : List ℕ) → (hosts : ℕ) → List Recording → Type 0
AllDone files image n all = (x : ℕ) (r : Recording) → slice_get all x ≡ Some r → HasDone files image n x r

-- these are all hosts of a world, and each did what its journal tells
pub record AreReplayed (files : List JournalText) (image : List ℕ) (all : List Recording) : Type 0 where
  pub world : AreOfWorld files (length all)
  pub each : AllDone files image (length all) all

-- the journals of these hosts
abbrev pub journals_in : List Recording → Journals
journals_in all = journals_of (map (λ r. r.journal) all)

-- what was asked for was written of an order of the journals of these hosts: what the journals add up to, a line for each
-- host and one for all; or, if it is the order of the rule, the events, a line each, or a chart of them
abbrev pub IsWritten : AuditText → List Recording → List Event → (before after : Option (List ℕ)) → Type 0
IsWritten Summary all events before after = Appends before after (summary_of all)
IsWritten Order all events before after =
    IsMerge (journals_in all) events × Appends before after (event_lines (length all) events)
IsWritten Chart all events before after =
    IsMerge (journals_in all) events × Appends before after (chart_of (length all) events)

-- the journals of these hosts have an order, and what was asked for of it was written
pub record IsOrdered (text : AuditText) (all : List Recording) (before after : Option (List ℕ)) : Type 0 where
  pub events : List Event
  pub order : IsOrder (journals_in all) events
  pub written : IsWritten text all events before after

-- a run of the world whose hosts these are, in which the guest of the image, with which the host of this header began,
-- is the guest of one board that never moves
pub record HasOneGuest (image : List ℕ) (opening : Header) (all : List Recording) (events : List Event) : Type 0 where
  pub guest : GuestState
  pub guest_is : IsGuestNamed opening.guest image (Some guest)
  pub run : IsWorldRun (new_world board 3 opening.host guest.guest (length all) (λ host. 4096)) opening.host guest.guest
      (journals_in all) events

-- the hosts of a world did what the journals tell; that has an order, what was asked for of it was written, and the guest
-- in it is the one that never moves
pub record AreAudited (files : List JournalText) (image : List ℕ) (text : AuditText) (before after : Option (List ℕ))
    : Type 0 where
  pub all : List Recording
  pub replayed : AreReplayed files image all
  pub ordered : IsOrdered text all before after
  pub one_guest : HasOneGuest image replayed.world.opening all ordered.events
