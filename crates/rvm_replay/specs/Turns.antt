-- The turns of the hosts of a world, and where each of them stands: at which host, and in that host's journal.
use Rattle.std.specs.Fmt.{decimal}
use Rattle.std.specs.Io.KnownBytes.{Appends}
use Rattle.std.specs.Prelude.{◌≡◌, ◌⊎◌, true, ℕ, zero, suc, ◌+◌, ◌-◌, ◌<◌, ◌==◌, List, [], ◌∷◌, ◌++◌, Option, Some, Result, Ok, Err, codes, count_by, flat_map, length, slice_get, replicate, sum_by, take}
use Rattle.rvm_audit.specs.Rule.{IsMerge}
use Rattle.rvm_audit.specs.declared.placed.HostTurns.{HostTurns}
use Rattle.rvm_audit.specs.declared.placed.Piece.TheVariants as piece
use Rattle.rvm_audit.specs.declared.placed.Piece.{Piece}
use Rattle.rvm_core.specs.declared.event.Event.TheVariants.{At, Deliver}
use Rattle.rvm_core.specs.declared.event.Event.{Event}
use Rattle.rvm_message.specs.declared.event.HostEvent.TheVariants.{Do}
use Rattle.rvm_recorder.specs.Entries.{PlainEntry}
use Rattle.rvm_recorder.specs.History.{Recording}
use Rattle.rvm_replay.specs.Audited.{AreReplayed, is_wanted, journals_in}
use Rattle.rvm_replay.specs.Counts.{turns_in}
use Rattle.rvm_replay.specs.Findings.{AreNotAudited, AreNotInOrder, AreOpen}
use Rattle.rvm_replay.specs.Replays.{HasSessionStatus}
use Rattle.rvm_replay.specs.Journals.{JournalText, header_number}
use Rattle.rvm_replay.specs.declared.headers.Wanted.TheVariants.{OfHost}
use Rattle.rvm_replay.specs.declared.journal_turns.Passed.{Passed}
use Rattle.rvm_replay.specs.declared.turns.TurnPlace.{TurnPlace}

-- the host that was asked for an event, if that is a turn
abbrev pub turn_at : Event → List ℕ
turn_at (At host command) = replicate (turns_in (Do command)) host
turn_at (Deliver place) = []

-- the hosts that were asked for the turns among some events, in order
abbrev pub turn_hosts : List Event → List ℕ
turn_hosts events = flat_map turn_at events

-- how many of some turns are of this host
abbrev pub count_at : (host : ℕ) → (hosts : List ℕ) → ℕ
count_at x hosts = count_by (λ y. x == y) hosts

-- the hosts of turns of one host
abbrev pub hosts_of : HostTurns → List ℕ
hosts_of t = replicate t.turns t.host

-- the hosts that were asked for the turns of a piece of an order
abbrev pub hosts_in : Piece → List ℕ
hosts_in (piece.Event e) = turn_at e
hosts_in (piece.Turns t) = hosts_of t

-- among the turns of some events, the one with this number, from 1, is of host x, and is the one with the number `own` there
pub record IsTurnOf (events : List Event) (turn x own : ℕ) : Type 0 where
  pub host_is : slice_get (turn_hosts events) (turn - 1) ≡ Some x
  pub own_is : count_at x (take turn (turn_hosts events)) ≡ own

-- how many turns some entries have
abbrev pub turns_of : List PlainEntry → ℕ
turns_of entries = sum_by (λ e. turns_in e.event) entries

-- the first `count` of some entries end with the turn that has this number, from 1, among their turns
pub record EndWithTurn (entries : List PlainEntry) (turn count : ℕ) : Type 0 where
  pub before : List PlainEntry
  pub last : PlainEntry
  pub rest : List PlainEntry
  pub entries_are : entries ≡ before ++ last ∷ rest
  pub is_turn : turns_in last.event ≡ 1
  pub turn_is : turns_of before + 1 ≡ turn
  pub count_is : length before + 1 ≡ count

-- some entries have these turns, fewer than this number, and are this many
pub record IsPassed (entries : List PlainEntry) (turn : ℕ) (p : Passed) : Type 0 where
  pub turns_are : turns_of entries ≡ p.turns
  pub length_is : length entries ≡ p.entries
  pub fewer : p.turns < turn

-- in an order of the journals of these hosts, the turn with this number, from 1, is one of host x, and its journal comes to
-- that turn with its first `count` entries
pub record IsTurnAt (all : List Recording) (events : List Event) (turn x count : ℕ) : Type 0 where
  pub own : ℕ
  pub host : Recording
  pub of_host : IsTurnOf events turn x own
  pub host_is : slice_get all x ≡ Some host
  pub there : EndWithTurn host.journal.entries own count

-- such a turn is at the first `count` entries of the journal with this index
pub record IsPlaceOf (files : List JournalText) (all : List Recording) (events : List Event) (turn index count : ℕ) : Type 0 where
  pub host : ℕ
  pub turn_is : IsTurnAt all events turn host count
  pub of_host : is_wanted (OfHost host) (header_number files index) ≡ true

-- the hosts of a world did what their journals tell, and that has an order, that of the rule, in which a turn has this place
pub record HasPlace (files : List JournalText) (image : List ℕ) (turn index count : ℕ) : Type 0 where
  pub all : List Recording
  pub events : List Event
  pub replayed : AreReplayed files image all
  pub merge : IsMerge (journals_in all) events
  pub place : IsPlaceOf files all events turn index count

-- a session was answered or not, and has this status, for the guest that is at the host of such a turn once that host did
-- again what its journal tells up to the turn, and with it
pub record IsTurnSession (files : List JournalText) (image : List ℕ) (turn status : ℕ)
    (session out out' errors errors' : Option (List ℕ)) : Type 0 where
  pub index : ℕ
  pub count : ℕ
  pub file : JournalText
  pub place : HasPlace files image turn index count
  pub file_is : slice_get files index ≡ Some file
  pub ended : HasSessionStatus status file.name (Some count) file.text image session out out' errors errors'

-- a report of such a session is not complete, since a write to the errors failed: errors that held nothing would hold it
abbrev pub IsUntoldSession : List JournalText → (image : List ℕ) → (turn : ℕ) → (session out out' : Option (List ℕ)) → Type 0
IsUntoldSession files image turn session out out' =
    (status : ℕ) × (report : List ℕ) × IsTurnSession files image turn status session out out' (Some []) (Some report)

-- the line that reports that the journals tell only this many turns
abbrev pub few_turns_line : (count : ℕ) → List ℕ
few_turns_line n = codes "the journals tell " ++ (decimal n ++ (codes " turns" ++ codes "\n"))

-- the hosts of a world did what their journals tell, and that has an order with fewer turns than this number, which was reported
pub record HaveFewTurns (files : List JournalText) (image : List ℕ) (turn : ℕ) (errors errors' : Option (List ℕ)) : Type 0 where
  pub all : List Recording
  pub events : List Event
  pub replayed : AreReplayed files image all
  pub merge : IsMerge (journals_in all) events
  pub few : length (turn_hosts events) < turn
  pub reported : Appends errors errors' (few_turns_line (length (turn_hosts events)))

-- by its status, why there is no such turn, which was reported, and nothing else was written: the journals are not audited,
-- have no order, or tell fewer turns; or what was cut off may explain that they have no order
abbrev pub IsNoTurn : (status : ℕ) → List JournalText → (image : List ℕ) → (turn : ℕ)
    → (out out' errors errors' : Option (List ℕ)) → Type 0
IsNoTurn (suc zero) files image turn out out' errors errors' =
    AreNotAudited 4294967295 files image out out' errors errors'
    ⊎ (AreNotInOrder files image out out' errors errors'
    ⊎ (HaveFewTurns files image turn errors errors' × (out' ≡ out)))
IsNoTurn (suc (suc (suc zero))) files image turn out out' errors errors' = AreOpen files image out out' errors errors'
IsNoTurn status files image turn out out' errors errors' = ⊥

-- a turn has this place, and nothing was reported; or it has none, and the status says why
abbrev pub IsLooked : List JournalText → (image : List ℕ) → (turn : ℕ) → Result TurnPlace ℕ → (errors errors' : Option (List ℕ))
    → Type 0
IsLooked files image turn (Ok place) errors errors' =
    HasPlace files image turn place.index place.count × (errors' ≡ errors)
IsLooked files image turn (Err status) errors errors' =
    (out : Option (List ℕ)) → IsNoTurn status files image turn out out errors errors'

-- a report that there is no such turn is not complete, since a write to the errors failed: errors that held nothing would
-- hold it
abbrev pub IsUntoldLook : List JournalText → (image : List ℕ) → (turn : ℕ) → Type 0
IsUntoldLook files image turn =
    (out : Option (List ℕ)) → (status : ℕ) × (report : List ℕ) × IsNoTurn status files image turn out out (Some []) (Some report)

-- by its status, how a replay ended that hands the guest after a turn to a session of the debugger: with the session, or
-- there is no such turn
abbrev pub HasTurnStatus : (status : ℕ) → List JournalText → (image : List ℕ) → (turn : ℕ)
    → (session out out' errors errors' : Option (List ℕ)) → Type 0
HasTurnStatus status files image turn session out out' errors errors' =
    IsTurnSession files image turn status session out out' errors errors'
    ⊎ IsNoTurn status files image turn out out' errors errors'

-- a report of such a replay is not complete, since a write to the errors failed: errors that held nothing would hold it
abbrev pub IsUntoldTurn : List JournalText → (image : List ℕ) → (turn : ℕ) → (session out out' : Option (List ℕ)) → Type 0
IsUntoldTurn files image turn session out out' =
    (status : ℕ) × (report : List ℕ) × HasTurnStatus status files image turn session out out' (Some []) (Some report)
