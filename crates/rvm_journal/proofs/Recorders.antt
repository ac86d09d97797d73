-- Events that a host does one after the other.
use Rattle.std.proofs.Common.{◌≡◌, ◌∙◌, ℕ, zero, suc, ◌+◌, ◌%◌, List, [], ◌∷◌, ◌++◌, length, Option, Some, None, refl, sym, ap, subst, append_assoc, arith, length-append}
use Rattle.std.proofs.lemmas.List.{append-nil, length-map, map-append}
use Rattle.rvm_message.specs.declared.event.HostEvent.{HostEvent}
use Rattle.rvm_message.specs.declared.step.StepReply.{StepReply}
use Rattle.rvm_message.specs.Exchanges.{step_of_hart}
use Rattle.rvm_recorder.specs.declared.error.RecordError.{RecordError}
use Rattle.rvm_recorder.specs.declared.error.RecordError.TheVariants as record_error
use Rattle.rvm_recorder.specs.Entries.{PlainEntry}
use Rattle.rvm_recorder.specs.Errors.{IsRecordError}
use Rattle.rvm_journal.specs.Recorders.{replay_error, HasMore, IsFull, Records, events_in}
use Rattle.rvm_recorder.specs.History.{Recording, count_of, with_entries}
use Rattle.rvm_recorder.specs.Items.{entries_in, last_of, one_if, step_entry, steps_in_turn}
use Rattle.rvm_station.specs.Logs.{steps_from}
use Rattle.rvm_recorder.specs.Slices.{AreTurnsRecorded}
use Rattle.rvm_station.proofs.Logs.{steps_more}

pub none_recorded : (r : Recording) → Records r [] r
none_recorded r = record { opening = refl; events = sym (append-nil (events_in r.journal.entries)); capacity = refl }

pub then_recorded : (a b c : Recording) (es fs : List HostEvent) → Records a es b → Records b fs c → Records a (es ++ fs) c
then_recorded a b c es fs first more = record {
  opening = more.opening ∙ first.opening;
  events = more.events ∙ ap (λ l. l ++ fs) first.events ∙ append_assoc (events_in a.journal.entries) es fs;
  capacity = more.capacity ∙ first.capacity;
}

-- how many entries were recorded
pub longer : (a b : Recording) (es : List HostEvent) → Records a es b → count_of b ≡ count_of a + length es
longer a b es so =
    let all : length (events_in b.journal.entries) ≡ length (events_in a.journal.entries ++ es) = ap length so.events in
    omega (
      arith,
      all,
      length-append (events_in a.journal.entries) es,
      length-map a.journal.entries (λ (x : PlainEntry). x.event),
      length-map b.journal.entries (λ (x : PlainEntry). x.event),
    )

pub more_recorded : (a b c : Recording) (es : List HostEvent) → Records a es b → HasMore b c → HasMore a c
more_recorded a b c es first more = (es ++ more.0, then_recorded a b c es more.0 first more.1)

pub same_more : (a b : Recording) → b ≡ a → HasMore a b
same_more a b e = ([], subst (λ r. Records a [] r) (sym e) (none_recorded a))

added : (old : Recording) (xs : List PlainEntry) (m : ℕ) (new : Recording) → new ≡ with_entries old xs m
    → Records old (events_in xs) new
added old xs m new e = record {
  opening = ap (λ r. r.journal.opening) e;
  events = ap (λ r. events_in r.journal.entries) e ∙ map-append (λ x. x.event) old.journal.entries xs;
  capacity = ap (λ r. r.capacity) e;
}

pub of_entry : (old new : Recording) (x : PlainEntry) (m : ℕ) → new ≡ with_entries old (x ∷ []) m → Records old (x.event ∷ []) new
of_entry old new x m e = added old (x ∷ []) m new e

-- turns
pub steps_from_length : (turn harts n : ℕ) → length (steps_from turn harts n) ≡ n
unfolding steps_from
steps_from_length turn harts zero = refl
steps_from_length turn harts (suc n) = ap suc (steps_from_length (turn + 1) harts n)

all_steps : (turn harts n : ℕ) → events_in (steps_in_turn turn harts n) ≡ steps_from turn harts n
unfolding steps_in_turn steps_from
all_steps turn harts zero = refl
all_steps turn harts (suc n) = ap (λ l. step_of_hart (turn % harts) ∷ l) (all_steps (turn + 1) harts n)

all_turns : (turn harts n : ℕ) (last : Option StepReply)
    → events_in (steps_in_turn turn harts n ++ last_of (turn + n) harts last) ≡ steps_from turn harts (n + one_if last)
all_turns turn harts n None =
    let all : n ≡ n + 0 = omega arith in
    ap events_in (append-nil (steps_in_turn turn harts n)) ∙ all_steps turn harts n ∙ ap (steps_from turn harts) all
all_turns turn harts n (Some r) =
    let more : suc n ≡ n + 1 = omega arith in
    map-append (λ x. x.event) (steps_in_turn turn harts n) (step_entry (turn + n) harts r ∷ [])
    ∙ ap (λ l. l ++ step_of_hart ((turn + n) % harts) ∷ []) (all_steps turn harts n)
    ∙ sym (steps_more turn harts n) ∙ ap (steps_from turn harts) more

pub of_turns : (old new : Recording) (turn harts made : ℕ) → AreTurnsRecorded old turn harts made new
    → Records old (steps_from turn harts made) new
of_turns old new turn harts made done =
    let run = done.run in
    let told = added old (entries_in turn harts run) done.room new done.next in
    let steps = all_turns turn harts run.retired run.last ∙ ap (steps_from turn harts) done.count in
    record {
      opening = told.opening;
      events = told.events ∙ ap (λ l. events_in old.journal.entries ++ l) steps;
      capacity = told.capacity;
    }

-- a recorder that refuses an event is full
pub is_full : (why : RecordError) (r : Recording) → IsRecordError why (count_of r) r.capacity → IsFull (replay_error why) r
is_full record_error.OutOfMemory r is = tt
is_full (record_error.RecorderFull c) r is = (is.1, is.0)
