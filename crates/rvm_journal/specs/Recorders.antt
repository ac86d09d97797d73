-- Events that a host does one after the other.
use Rattle.std.specs.Prelude.{◌≡◌, ⊤, ℕ, ◌-◌, List, ◌++◌, map}
use Rattle.rvm_message.specs.declared.event.HostEvent.{HostEvent}
use Rattle.rvm_recorder.specs.declared.error.RecordError.{RecordError}
use Rattle.rvm_recorder.specs.declared.error.RecordError.TheVariants as record_error
use Rattle.rvm_journal.specs.declared.replay_error.ReplayError.{ReplayError}
use Rattle.rvm_journal.specs.declared.replay_error.ReplayError.TheVariants.{OutOfMemory, TooMany}
use Rattle.rvm_recorder.specs.Entries.{PlainEntry}
use Rattle.rvm_recorder.specs.History.{Recording, count_of}

-- the events of entries
abbrev pub events_in : List PlainEntry → List HostEvent
events_in entries = map (λ x. x.event) entries

-- these events were recorded, in order, after those that were there; the host with which the journal opened and the
-- number of entries that it takes are as they were
pub record Records (old : Recording) (es : List HostEvent) (new : Recording) : Type 0 where
  pub opening : new.journal.opening ≡ old.journal.opening
  pub events : events_in new.journal.entries ≡ events_in old.journal.entries ++ es
  pub capacity : new.capacity ≡ old.capacity

-- some events were recorded, in order, after those that were there
abbrev pub HasMore : (old new : Recording) → Type 0
HasMore old new = (events : List HostEvent) × Records old events new

-- how many more entries a recorder takes
abbrev pub room_of : Recording → ℕ
room_of r = r.capacity - count_of r

-- the recorder takes no more entries, if an event was refused for that
abbrev pub IsFull : ReplayError → Recording → Type 0
IsFull OutOfMemory r = ⊤
IsFull (TooMany most) r = (count_of r ≡ r.capacity) × (most ≡ r.capacity)

-- why an event is not done again that is not recorded
abbrev pub replay_error : RecordError → ReplayError
replay_error record_error.OutOfMemory = OutOfMemory
replay_error (record_error.RecorderFull n) = TooMany n
