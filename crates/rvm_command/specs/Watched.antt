-- A run that may end at a fault, and of which a part may be traced.
use Rattle.std.specs.Prelude.{◌≡◌, ◌⊎◌, ℕ, ◌+◌, ◌<◌, Bool, true, false, ◌&&◌, nat_le, if◌then◌else◌, List, [], ◌∷◌, ◌++◌, length, Option, Some, None}
use Rattle.std.specs.List.{concat}
use Rattle.std.specs.Io.KnownBytes.{Appends}
use Rattle.rvm_mem.specs.Pages.{mark_all}
use Rattle.rvm_board.specs.declared.event.BoardEvent.{BoardEvent}
use Rattle.rvm_board.specs.Guest.{Guest, GuestState}
use Rattle.rvm_arguments.specs.declared.arguments.TraceArguments.{TraceArguments}
use Rattle.rvm_command.specs.declared.run.Ended.{Ended}
use Rattle.rvm_command.specs.declared.run.Ended.TheVariants as ended
use Rattle.rvm_command.specs.Faults.{Shown, first_fault}
use Rattle.rvm_command.specs.Run.{IsPartWay, ran_by, run_by}
use Rattle.rvm_command.specs.Taken.{Taken, steps_in}
use Rattle.rvm_command.specs.Trace.{before_of, line_of}

-- the steps of a run of at most this many turns, one for each turn that is made
abbrev pub steps_of_run : (seed : Option ℕ) → (turns : ℕ) → (input : List ℕ) → Guest → List Taken
steps_of_run seed turns input g = steps_in (run_by seed turns 0 input g).events g

-- the first fault that steps show, after earlier ones of which the latest comes first, if a run stops at it
abbrev pub fault_among : (stop : Bool) → (earlier : List Taken) → List Taken → Option Shown
fault_among false earlier ts = None
fault_among true earlier ts = first_fault earlier ts

-- how many turns a run makes at most: up to and with the one that shows the fault at which it stops
abbrev pub turns_until : Option Shown → (turns : ℕ) → ℕ
turns_until None turns = turns
turns_until (Some found) turns = found.steps

-- how a run ended that stops at a fault, if there is one
abbrev pub end_at : Option Shown → Ended → Ended
end_at None end = end
end_at (Some found) end = ended.Fault found.fault

-- the first and the last turn that have a line in a trace, if there is one
abbrev pub traced_of : Option TraceArguments → Option (ℕ × ℕ)
traced_of None = None
traced_of (Some t) = Some (t.from, t.to)

-- whether the trace has a line for a turn: from its first to its last turn
abbrev pub is_traced : Option (ℕ × ℕ) → (turn : ℕ) → Bool
is_traced None turn = false
is_traced (Some range) turn = nat_le range.0 turn && nat_le turn range.1

-- the line of the step of a turn
abbrev pub line_at : (turn : ℕ) → Taken → List ℕ
line_at turn t = line_of turn t.hart (before_of t.hart t.before) t.after t.reply

-- the lines of those of these steps that are traced; the first step is that of turn `turn`
unfoldable pub lines_from : Option (ℕ × ℕ) → (turn : ℕ) → List Taken → List (List ℕ)
lines_from range turn [] = []
lines_from range turn (t ∷ ts) =
    (if is_traced range turn then line_at turn t ∷ [] else []) ++ lines_from range (turn + 1) ts

-- the lines of a trace, if there is one
abbrev pub trace_of : Option (ℕ × ℕ) → List Taken → List (List ℕ)
trace_of None ts = []
trace_of (Some range) ts = lines_from (Some range) 0 ts

-- what a run leaves: the guest, the pages that it wrote, the bytes that it writes, how it ended, the steps that it made,
-- and the lines of its trace
pub record Watched : Type 0 where
  pub guest : Guest
  pub pages : List ℕ
  pub written : List ℕ
  pub ended : Ended
  pub steps : List Taken
  pub lines : List (List ℕ)

-- how many turns a run makes at most that stops at the first fault, if it is asked to
abbrev pub turns_of : (seed : Option ℕ) → (stop : Bool) → (steps : ℕ) → (input : List ℕ) → Guest → ℕ
turns_of seed stop steps input g = turns_until (fault_among stop [] (steps_of_run seed steps input g)) steps

-- what a run of at most this many turns leaves of a guest, with this input, that draws its harts by a seed if there is one,
-- stops at the first fault if it is asked to, and has a trace of the turns of a range if there is one
abbrev pub run_with : (seed : Option ℕ) → (stop : Bool) → (range : Option (ℕ × ℕ)) → (steps : ℕ) → (input : List ℕ) → Guest
    → Watched
run_with seed stop range steps input g =
    let turns = turns_of seed stop steps input g in
    let all = ran_by seed turns input g in
    record {
      guest = all.guest;
      pages = all.pages;
      written = all.written;
      ended = end_at (fault_among stop [] (steps_of_run seed steps input g)) all.ended;
      steps = steps_of_run seed turns input g;
      lines = trace_of range (steps_of_run seed turns input g);
    }

-- a guest made this run to its end, which was written, as was the trace
pub record HasRun (r : Watched) (end : Ended) (old new : GuestState) (before after trace_before trace_after : Option (List ℕ))
    : Type 0 where
  pub written : Appends before after r.written
  pub guest : new.guest ≡ r.guest
  pub dirty : new.dirty ≡ mark_all r.pages old.dirty
  pub ended : end ≡ r.ended
  pub traced : Appends trace_before trace_after (concat r.lines)

-- a guest made some of the first events of this run, which had something to write, to its output or its trace
pub record BreaksOff (r : Watched) (events : List BoardEvent) (old new : GuestState) : Type 0 where
  pub some : (0 < length r.written) ⊎ (0 < length r.lines)
  pub part : IsPartWay events old new
