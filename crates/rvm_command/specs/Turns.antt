-- A run turn by turn: how its turns end, and the rest of it after some of them.
use Rattle.std.specs.Prelude.{ℕ, ◌%◌, ◌==◌, Bool, true, false, not, ◌&&◌, if◌then◌else◌, List, [], Option, Some, None}
use Rattle.rvm_board.specs.declared.event.BoardEvent.{BoardEvent}
use Rattle.rvm_board.specs.declared.event.BoardEvent.TheVariants.{Step}
use Rattle.rvm_board.specs.declared.event.BoardReply.{BoardReply}
use Rattle.rvm_board.specs.declared.event.BoardReply.TheVariants.{Halted}
use Rattle.rvm_board.specs.Events.{answered}
use Rattle.rvm_board.specs.Guest.{Guest}
use Rattle.rvm_command.specs.declared.fault.Fault.{Fault}
use Rattle.rvm_command.specs.declared.run.Ended.{Ended}
use Rattle.rvm_command.specs.declared.run.Ended.TheVariants as ended
use Rattle.rvm_command.specs.Run.{drains}
use Rattle.rvm_command.specs.Taken.{Taken}

-- the step that a hart of this guest takes
abbrev pub taken_by : (hart : ℕ) → Guest → Taken
taken_by h g =
    let a = answered (Step h) g in
    record { hart = h; before = g; after = a.guest; reply = a.reply }

-- a run ends at a fault, if it is asked to stop at one
abbrev pub stops_at : Option Fault → (stop : Bool) → Option Ended
stops_at (Some f) true = Some (ended.Fault f)
stops_at (Some f) false = None
stops_at None stop = None

-- how a run ends with a step that has this answer and shows this fault, if it does
abbrev pub ends_turns : BoardReply → (shown : Option Fault) → (stop : Bool) → Option Ended
ends_turns (Halted s) shown stop = Some (ended.HaltedWith s)
ends_turns reply shown stop = stops_at shown stop

-- whether a run ended since the guest halted the board
abbrev pub is_halted : Option Ended → Bool
is_halted (Some (ended.HaltedWith s)) = true
is_halted (Some ended.StepsSpent) = false
is_halted (Some (ended.Fault f)) = false
is_halted None = false

-- whether what the guest sent is taken after this many turns: after each 64, unless the board is halted
abbrev pub drains_after : Option Ended → (turns : ℕ) → Bool
drains_after end turns = not (is_halted end) && turns % 64 == 0

-- what is taken after this many turns
abbrev pub between : Option Ended → (turns : ℕ) → Guest → List BoardEvent
between end turns g = if drains_after end turns then drains g else []
