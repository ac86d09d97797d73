-- A slice: consecutive steps of harts in turn, which are recorded.
use Rattle.std.specs.Prelude.{◌≡◌, ℕ, suc, ◌+◌, ◌-◌, ◌%◌, ◌<◌, ◌≤◌, min, true, false, List, length, map, slice_get, Some, None}
use Rattle.rvm_recorder.specs.Entries.{PlainEntry}
use Rattle.rvm_recorder.specs.History.{Recording, count_of, with_entries, with_room}
use Rattle.rvm_recorder.specs.Items.{entries_in, steps_of}
use Rattle.rvm_recorder.specs.declared.run.StepRun.{StepRun}
use Rattle.rvm_message.specs.declared.event.HostEvent.{HostEvent}
use Rattle.rvm_message.specs.declared.reply.HostReply.{HostReply}
use Rattle.rvm_message.specs.declared.step.StepReply.{StepReply}
use Rattle.rvm_message.specs.Exchanges.{step_of_hart}
use Rattle.rvm_message.specs.Replies.{ends_steps, reply_of}
use Rattle.rvm_message.specs.Steps.{reply_to_step}

-- the step of the hart whose turn it is
abbrev pub step_of : (turn harts : ℕ) → HostEvent
step_of turn harts = step_of_hart (turn % harts)

-- the replies to steps, as replies of a host
abbrev pub replies_to : List StepReply → List HostReply
replies_to replies = map (λ r. reply_to_step r) replies

-- the entries are steps from a turn on; only the last of them may end the slice, and a slice with fewer steps than were
-- asked for ends with such a step
pub record IsSlice (turn harts most : ℕ) (xs : List PlainEntry) : Type 0 where
  pub some : 1 ≤ length xs
  pub bound : length xs ≤ most
  pub events : (k : ℕ) (x : PlainEntry) → slice_get xs k ≡ Some x → x.event ≡ step_of (turn + k) harts
  pub silent : (k : ℕ) (x : PlainEntry) → slice_get xs k ≡ Some x → x.frame ≡ None
  pub goes_on : (k : ℕ) (x : PlainEntry) → slice_get xs k ≡ Some x → suc k < length xs
      → ends_steps (reply_of x.reply) ≡ false
  pub ended : (k : ℕ) (x : PlainEntry) → slice_get xs k ≡ Some x → suc k ≡ length xs → length xs < most
      → ends_steps (reply_of x.reply) ≡ true

-- a slice of at most this many steps was recorded, with these replies, in room that was there; nothing else changed
pub record IsSteps (old : Recording) (turn harts most : ℕ) (replies : List HostReply) (new : Recording) : Type 0 where
  pub entries : List PlainEntry
  pub slice : IsSlice turn harts most entries
  pub replies_are : replies ≡ map (λ x. x.reply) entries
  pub next : new ≡ with_entries old entries (old.journal.reserved - length entries)

-- as many steps as were asked for, or as there are free places, if these are fewer
abbrev pub most_of : (r : Recording) → (n : ℕ) → ℕ
most_of r n = min n (r.capacity - count_of r)

-- room was made for a slice, and it was recorded from this place on, with these replies; nothing else changed, so the
-- room that it did not take is there for later entries
pub record IsSliceRecorded (old : Recording) (turn harts n : ℕ) (answer : ℕ × List HostReply) (new : Recording)
    : Type 0 where
  pub place : answer.0 ≡ count_of old
  pub steps : IsSteps (with_room old (most_of old n)) turn harts (most_of old n) answer.1 new

-- this many steps of harts in turn were recorded, of which only the last may not have retired an instruction; nothing else
-- changed but the room for later entries
pub record AreTurnsRecorded (old : Recording) (turn harts made : ℕ) (new : Recording) : Type 0 where
  pub run : StepRun
  pub room : ℕ
  pub count : steps_of run ≡ made
  pub next : new ≡ with_entries old (entries_in turn harts run) room
