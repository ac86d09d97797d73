-- What an extended session does to a guest, and what it answers: a fold over its lines.
use Rattle.std.specs.Prelude.{ℕ, ◌+◌, ◌-◌, ◌%◌, List, [], ◌∷◌, ◌++◌, length, map, Option, Some, None, codes}
use Rattle.std.specs.List.{range_with_len}
use Rattle.rvm_board.specs.declared.event.BoardEvent.{BoardEvent}
use Rattle.rvm_board.specs.declared.event.BoardEvent.TheVariants.{Step}
use Rattle.rvm_board.specs.declared.turns.Order.TheVariants.{RoundRobin}
use Rattle.rvm_board.specs.Guest.{Guest}
use Rattle.rvm_board.specs.State.{state_of}
use Rattle.rvm_board.specs.Turns.{AfterTurns, after_turns}
use Rattle.rvm_debug.specs.Script.{Answers, Replied, answers_behind, done_by, ended}
use Rattle.rvm_command.specs.declared.extended_line.ExtendedLine.{ExtendedLine}
use Rattle.rvm_command.specs.declared.extended_line.ExtendedLine.TheVariants as line
use Rattle.rvm_command.specs.declared.fault.Fault.{Fault}
use Rattle.rvm_command.specs.ExtendedAnswers.{csrs_answer, devices_text, turns_text}
use Rattle.rvm_command.specs.ExtendedLines.{extended_line_of}
use Rattle.rvm_command.specs.Faults.{Shown, first_fault}
use Rattle.rvm_command.specs.FaultTexts.{fault_text}
use Rattle.rvm_command.specs.Taken.{Taken, steps_in}
use Rattle.rvm_command.specs.Watched.{turns_until}

-- what a line leaves and answers, and how many turns the lines `turns` and `find-fault` have made so far
pub record Extended : Type 0 where
  pub replied : Replied
  pub turns : ℕ

-- a line only tells something of a guest
abbrev pub tells : Guest → (text : List ℕ) → Replied
tells g text = record { guest = g; pages = []; text = text }

-- the hart whose turn is turn t
abbrev pub hart_of_turn : (t : ℕ) → Guest → ℕ
hart_of_turn t g = t % length g.board.harts

-- at most n turns of the harts in their order, from turn t on
abbrev pub turns_from : (n t : ℕ) → Guest → AfterTurns
turns_from n t g = after_turns RoundRobin n (hart_of_turn t g) g

-- what at most n turns do, from turn t on
abbrev pub turns_done : (n t : ℕ) → Guest → Extended
turns_done n t g =
    let after = turns_from n t g in
    record {
      replied = record {
        guest = after.guest;
        pages = after.pages;
        text = turns_text after.made (hart_of_turn (t + after.made - 1) g) after.stop;
      };
      turns = t + after.made;
    }

-- n turns from turn t on, as events: a step of the hart whose turn it is
abbrev pub events_of_turns : (n t : ℕ) → Guest → List BoardEvent
events_of_turns n t g = map (λ k. Step (hart_of_turn k g)) (range_with_len t n)

-- the steps of at most n turns, from turn t on, in order
abbrev pub steps_of_turns : (n t : ℕ) → Guest → List Taken
steps_of_turns n t g = steps_in (events_of_turns (turns_from n t g).made t g) g

-- the first fault that at most n turns show, from turn t on; steps before them count for nothing
abbrev pub fault_in_turns : (n t : ℕ) → Guest → Option Shown
fault_in_turns n t g = first_fault [] (steps_of_turns n t g)

-- the fault that was shown, if one was
abbrev pub fault_shown : Option Shown → Option Fault
fault_shown None = None
fault_shown (Some found) = Some found.fault

-- the answer to `find-fault N`: the fault, if one is shown, or else what `turns N` answers
abbrev pub found_text : Option Fault → (turns : List ℕ) → List ℕ
found_text None turns = turns
found_text (Some f) turns = fault_text f ++ codes "\n"

-- what at most n turns do, from turn t on, which end with the one that shows the first fault
abbrev pub find_done : (n t : ℕ) → Guest → Extended
find_done n t g =
    let found = fault_in_turns n t g in
    let done = turns_done (turns_until found n) t g in
    record done {
      replied = record done.replied { text = found_text (fault_shown found) done.replied.text };
    }

-- what a line does after t turns
abbrev pub extended_done_by : ExtendedLine → (t : ℕ) → Guest → Extended
extended_done_by (line.Plain l) t g = record { replied = done_by l g; turns = t }
extended_done_by (line.Csrs h) t g = record { replied = tells g (csrs_answer h g); turns = t }
extended_done_by line.Devices t g = record { replied = tells g (devices_text (state_of g)); turns = t }
extended_done_by (line.Turns n) t g = turns_done n t g
extended_done_by (line.FindFault n) t g = find_done n t g

-- what a session leaves and answers, as a script does, and how many turns its lines `turns` and `find-fault` have made
pub record Session : Type 0 where
  pub told : Answers
  pub turns : ℕ

-- a session after a line that was done before it
abbrev pub session_behind : Extended → Session → Session
session_behind d s =
    record s { told = answers_behind d.replied.pages d.replied.text s.told }

-- a line with this number after t turns, and the rest of its session after it
abbrev pub session_by : Option ExtendedLine → (number t : ℕ) → Guest → ((t : ℕ) → Guest → Session) → Session
session_by None n t g rest = record { told = ended (Some n) g; turns = t }
session_by (Some l) n t g rest =
    let d = extended_done_by l t g in session_behind d (rest d.turns d.replied.guest)

-- what lines do after t turns, the first of which has this number
unfoldable pub session_of : List (List ℕ) → (number t : ℕ) → Guest → Session
session_of [] n t g = record { told = ended None g; turns = t }
session_of (l ∷ ls) n t g = session_by (extended_line_of l) n t g (session_of ls (n + 1))
