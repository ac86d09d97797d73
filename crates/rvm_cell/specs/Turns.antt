-- Turns, and what comes after them.
use Rattle.std.specs.Prelude.{◌≡◌, ℕ, zero, suc, ◌-◌, ◌%◌, ◌≤◌, ◌<◌, ◌==◌, Bool, true, false, List, [], ◌∷◌, ◌++◌, Result, Ok, Err, if◌then◌else◌}
use Rattle.rvm_board.specs.declared.event.BoardEvent.TheVariants as asked
use Rattle.rvm_board.specs.declared.event.BoardReply.{BoardReply}
use Rattle.rvm_board.specs.declared.event.BoardReply.TheVariants as answer
use Rattle.rvm_message.specs.declared.event.Command.TheVariants as command
use Rattle.rvm_message.specs.declared.event.HostEvent.{HostEvent}
use Rattle.rvm_message.specs.declared.event.HostEvent.TheVariants as event
use Rattle.rvm_message.specs.declared.reply.HostRefusal.{HostRefusal}
use Rattle.rvm_message.specs.declared.reply.HostRefusal.TheVariants as refusal
use Rattle.rvm_message.specs.declared.reply.HostReply.{HostReply}
use Rattle.rvm_message.specs.declared.reply.HostReply.TheVariants as reply
use Rattle.rvm_cell.specs.declared.harts.TurnsEnd.{TurnsEnd}
use Rattle.rvm_cell.specs.declared.harts.TurnsEnd.TheVariants as ended
use Rattle.rvm_station.specs.declared.turn.Then.{Then}
use Rattle.rvm_station.specs.declared.turn.Then.TheVariants.{GoOn, Elsewhere, Halted}
use Rattle.rvm_cell.specs.declared.end.WorkEnd.{WorkEnd}
use Rattle.rvm_cell.specs.declared.end.WorkEnd.TheVariants.{GuestStopped, LinkFault, OutOfRange}
use Rattle.rvm_cell.specs.Endings.{is_uncalled}
use Rattle.rvm_cell.specs.Drains.{found_nothing}

-- what comes after the board's answer to a step: a hart that stops at a breakpoint has had its turn
abbrev pub after_answer : BoardReply → Then
after_answer (answer.Halted status) = Halted status
after_answer a = GoOn

-- the refusal says that the guest is not at this host, or is paused there
abbrev pub is_elsewhere : HostRefusal → Bool
is_elsewhere refusal.NotHere = true
is_elsewhere refusal.Paused = true
is_elsewhere why = false

-- what comes after a host's reply to a step
abbrev pub after_step : HostReply → Then
after_step (reply.Board a) = after_answer a
after_step (reply.Refused why) = if is_elsewhere why then Elsewhere else GoOn
after_step r = GoOn

-- how many of a slice's steps were turns, if this comes after the last: a step that the other host is to make was none
abbrev pub turns_of : Then → ℕ → ℕ
turns_of Elsewhere n = n - 1
turns_of t n = n

-- what comes after the last of a slice's steps that was a turn
abbrev pub after_turns : Then → Then
after_turns Elsewhere = GoOn
after_turns t = t

-- what a call leaves of a run: a hart made its turn, after which this comes, or a drain found nothing
pub data Mark : Type 0 where
  Turned : (hart : ℕ) → Then → Mark
  Dry : Mark

-- `count` turns of this many harts, which step in turn, from turn `from` on: `last` comes after the last turn, the next
-- turn after each other one
unfoldable pub turns : (harts from count : ℕ) → Then → List Mark
turns harts from zero last = []
turns harts from (suc zero) last = Turned (from % harts) last ∷ []
turns harts from (suc (suc n)) last = Turned (from % harts) GoOn ∷ turns harts (suc from) (suc n) last

-- a drain that found nothing, if there was one
abbrev pub if_dry : (dry : Bool) → List Mark
if_dry true = Dry ∷ []
if_dry false = []

-- turns of a run that has made this many before, with a drain that finds nothing after each 64th turn of the run
unfoldable pub drained : (made : ℕ) → List Mark → List Mark
drained made [] = []
drained made (t ∷ ts) = t ∷ if_dry (made % 64 == 63) ++ drained (suc made) ts

-- the turn that a hart's step was, by what comes after it: none if the other host is to make the step
abbrev pub turn_of_step : (hart : ℕ) → Then → List Mark
turn_of_step hart Elsewhere = []
turn_of_step hart t = Turned hart t ∷ []

-- what an event leaves of a run, by the reply to it: the turn that it was, or that it was a drain that found nothing,
-- if one of the two is so
abbrev pub mark_made : HostEvent → HostReply → List Mark
mark_made (event.Do (command.Board (asked.Step hart))) r = turn_of_step hart (after_step r)
mark_made e r = if_dry (found_nothing e r)

-- how turns and drains fail: neither host takes them, no slice has this many turns, or the call was not made
abbrev pub fails_calling : WorkEnd → Bool
fails_calling GuestStopped = true
fails_calling OutOfRange = true
fails_calling end = is_uncalled end

-- how a run fails: as its turns and drains do, or with its writer
abbrev pub fails_running : WorkEnd → Bool
fails_running LinkFault = true
fails_running end = fails_calling end

-- the turns and drains of a run whose last turn halted the board with this status, and one drain after it
pub record Halts (harts steps status : ℕ) (made : List Mark) : Type 0 where
  pub before : ℕ
  pub within : before < steps
  pub are : made ≡ drained 0 (turns harts 0 before GoOn) ++ Turned (before % harts) (Halted status) ∷ Dry ∷ []

-- the first turns and drains of a run
pub record Begins (harts steps : ℕ) (made : List Mark) : Type 0 where
  pub count : ℕ
  pub last : Then
  pub within : count ≤ steps
  pub rest : List Mark
  pub are : made ++ rest ≡ drained 0 (turns harts 0 count last)

-- the turns and drains of a run of at most `steps` turns, by how it ended: all turns were made, or the last one halted
-- the board, and a drain came after it; or the run failed after some
abbrev pub AreTurns : (harts steps : ℕ) → Result TurnsEnd WorkEnd → List Mark → Type 0
AreTurns harts steps (Ok ended.StepsSpent) made = made ≡ drained 0 (turns harts 0 steps GoOn) ++ Dry ∷ []
AreTurns harts steps (Ok (ended.Halted status)) made = Halts harts steps status made
AreTurns harts steps (Err why) made = Begins harts steps made
