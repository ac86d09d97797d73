-- Entries that are forgotten: a journal that begins anew with the host as it is.
use Rattle.std.specs.Prelude.{◌≡◌, List, []}
use Rattle.rvm_host.specs.Hosts.{PlainHost, host_of}
use Rattle.rvm_recorder.specs.Entries.{PlainEntry}
use Rattle.rvm_recorder.specs.History.{Recording}
use Rattle.rvm_recorder.specs.Replay.{replay}

-- from an opening host, these entries lead to this host
pub record LeadsTo (opening : PlainHost) (entries : List PlainEntry) (host : PlainHost) : Type 0 where
  pub numbers : host ≡ record opening { mode = host.mode; partner = host.partner }
  pub there : host_of host ≡ replay opening entries

-- the journal was begun anew, with the host as it is
pub record IsReopened (old new : Recording) : Type 0 where
  pub opening : LeadsTo old.journal.opening old.journal.entries new.journal.opening
  pub empty : new.journal.entries ≡ []
  pub reserved : new.journal.reserved ≡ old.journal.reserved
  pub capacity : new.capacity ≡ old.capacity
