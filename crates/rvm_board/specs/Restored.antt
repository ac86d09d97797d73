-- A board from plain values.
use Rattle.std.specs.Prelude.{ℕ, Bool, List, Option, slice_set}
use Rattle.rvm_dev.specs.declared.fields.DeviceFields.{DeviceFields}
use Rattle.rvm_dev.specs.Shared as dev
use Rattle.rvm_hart.specs.declared.fields.HartFields.{HartFields}
use Rattle.rvm_hart.specs.Fields as hart
use Rattle.rvm_board.specs.Board.{Board}

-- the board with other values that the devices keep for all harts, and other bytes in the queues
abbrev pub restored : DeviceFields → (input output : List ℕ) → Board → Board
restored f input output b =
    record b { shared = record b.shared { devices = dev.restored f input output b.shared.devices } }

-- the board with other values of one hart, of its device words, and of its reservation
abbrev pub hart_restored : (h : ℕ) → HartFields → (msip : Bool) → (mtimecmp : ℕ) → Option ℕ → Board → Board
hart_restored h f msip mtimecmp reserved b =
    record {
      harts = slice_set b.harts h (hart.with_number h f);
      shared = hart.hart_restored h msip mtimecmp reserved b.shared;
    }
