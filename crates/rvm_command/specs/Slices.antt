-- A run in slices: some turns, and the rest of the run.
use Rattle.std.specs.Prelude.{◌≡◌, ℕ, ◌%◌, ◌==◌, Bool, true, if◌then◌else◌, List, [], Option, Some, None}
use Rattle.rvm_board.specs.declared.event.BoardEvent.{BoardEvent}
use Rattle.rvm_board.specs.declared.turns.Stop.{Stop}
use Rattle.rvm_board.specs.declared.turns.Stop.TheVariants.{Break, Halted}
use Rattle.rvm_board.specs.Guest.{Guest, GuestState}
use Rattle.rvm_board.specs.WhileFull.{is_full}
use Rattle.rvm_command.specs.declared.run.Ended.TheVariants.{HaltedWith}
use Rattle.rvm_command.specs.Run.{IsAfter, Run, after, drains, first, run_from}

-- if there is more input, the console of the guest has no room for it
abbrev pub takes_none : (is_more : Bool) → Guest → Bool
takes_none is_more g = if is_more then is_full g else true

-- the status of the board, if the turns stopped because it is halted
abbrev pub status_of : Option Stop → Option ℕ
status_of (Some (Halted s)) = Some s
status_of (Some (Break a)) = None
status_of None = None

-- the rest of a run after turns that left this guest: n turns from turn t on, or the drains of a halted board
abbrev pub rest_of_run : (halted : Option ℕ) → (n t : ℕ) → (input : List ℕ) → Guest → Run
rest_of_run (Some s) n t input g = record { events = drains g; ended = HaltedWith s }
rest_of_run None n t input g =
    let taken = if t % 64 == 0 then drains g else [] in
    first taken (run_from n t input (after taken g).guest)

-- a run goes on with `rest` after events that led a guest from one state to another and took no bytes from it
pub record GoesOn (run rest : Run) (old new : GuestState) : Type 0 where
  pub events : List BoardEvent
  pub whole : run ≡ first events rest
  pub so_far : IsAfter events old new
  pub quiet : (after events old.guest).bytes ≡ []
