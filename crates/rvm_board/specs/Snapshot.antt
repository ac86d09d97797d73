-- The values that a snapshot holds.
use Rattle.rvm_board.specs.declared.snapshot.Snapshot.{Snapshot}
use Rattle.rvm_board.specs.State.{State}

-- the state that a snapshot holds
abbrev pub state_in : Snapshot → State
state_in s =
    record {
      harts = s.harts.items;
      shared = s.devices;
      input = s.input.items;
      output = s.output.items;
      breakpoints = s.breakpoints.items;
    }
