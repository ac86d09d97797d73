-- The replay of a journal: the fold of the protocol's step over the events of its entries.
use Rattle.std.specs.Prelude.{◌≡◌, ℕ, List, [], ◌∷◌}
use Rattle.rvm_host.specs.Hosts.{PlainHost, host_of}
use Rattle.rvm_host.specs.Spelled.{AreSpelled}
use Rattle.rvm_board.specs.declared.event.BoardReply.{BoardReply}
use Rattle.rvm_board.specs.Guest.{Guest}
use Rattle.rvm_guest.specs.TheGuest.{board}
use Rattle.rvm_recorder.specs.Entries.{PlainEntry}
use Rattle.rvm_message.specs.Events.{BoardHostEvent, event_of}
use Rattle.rvm_message.specs.Replies.{reply_of}
use Rattle.rvm_protocol.specs.Host as protocol
use Rattle.rvm_protocol.specs.Host.{host_step}

-- a host of the protocol
abbrev pub LawHost : Type 0
LawHost = protocol.Host Guest (List ℕ)

-- what an event does at a host, by the protocol
abbrev pub Outcome : Type 0
Outcome = protocol.Result Guest (List ℕ) BoardReply (List ℕ)

-- what an event does at a host whose number among this many hosts, limit and version of its streams are those of the
-- opening host
abbrev pub outcome_at : (opening : PlainHost) → LawHost → BoardHostEvent → Outcome
outcome_at o h e = host_step board o.version o.id o.count o.limit e h

-- the host after these entries
abbrev pub replay_from : (opening : PlainHost) → LawHost → List PlainEntry → LawHost
replay_from o h [] = h
replay_from o h (x ∷ xs) = replay_from o (outcome_at o h (event_of x.event)).next xs

-- the host after all entries of a journal
abbrev pub replay : (opening : PlainHost) → List PlainEntry → LawHost
replay o xs = replay_from o (host_of o) xs

-- an entry has the reply of this outcome, and the bytes of its frame
pub record IsAnswered (version : ℕ) (outcome : Outcome) (x : PlainEntry) : Type 0 where
  pub reply : reply_of x.reply ≡ outcome.reply
  pub frame : AreSpelled version outcome.made x.frame

-- each of these entries has the reply and the frame that the protocol gives at its place
abbrev pub IsReplayFrom : (opening : PlainHost) → LawHost → List PlainEntry → Type 0
IsReplayFrom o h [] = Unit {0}
IsReplayFrom o h (x ∷ xs) =
    IsAnswered o.version (outcome_at o h (event_of x.event)) x
    × IsReplayFrom o (outcome_at o h (event_of x.event)).next xs

-- each entry of a journal has the reply and the frame that the protocol gives at its place
abbrev pub IsReplay : (opening : PlainHost) → List PlainEntry → Type 0
IsReplay o xs = IsReplayFrom o (host_of o) xs
