-- A host that keeps none of its entries: those that it has forgotten lead to the host with which its journal begins.
use Rattle.std.specs.Prelude.{◌≡◌, ℕ, ◌+◌, ◌≤◌, List, ◌++◌, length}
use Rattle.rvm_host.specs.Hosts.{PlainHost}
use Rattle.rvm_recorder.specs.Entries.{PlainEntry}
use Rattle.rvm_recorder.specs.History.{Recording}
use Rattle.rvm_recorder.specs.Reopening.{LeadsTo}
use Rattle.rvm_recorder.specs.Replay.{IsReplay}

-- the most entries that a host takes that keeps none of them
abbrev pub most_replayed : ℕ
most_replayed = 18446744073709551615

-- a host that has forgotten the entries of its past, and then recorded others
abbrev pub replayed_of : (opening : PlainHost) → (past : List PlainEntry) → Recording → Recording
replayed_of o past r = record {
  journal = record { opening = o; entries = past ++ r.journal.entries; reserved = 0 };
  capacity = most_replayed;
}

-- the `count` entries of the past lead to the host with which the journal begins
pub record IsBehind (opening : PlainHost) (past : List PlainEntry) (count : ℕ) (r : Recording) : Type 0 where
  pub leads : LeadsTo opening past r.journal.opening
  pub replay : IsReplay opening past
  pub count_is : count ≡ length past
  pub capacity : r.capacity ≡ 4294967295
  pub fits : count + length r.journal.entries ≤ most_replayed
