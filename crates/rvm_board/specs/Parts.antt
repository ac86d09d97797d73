-- A guest from plain values.
use Rattle.std.specs.Prelude.{◌≡◌, ℕ, true, false, List, None, get_or, slice_set}
use Rattle.rvm_dev.specs.declared.fields.DeviceFields.{DeviceFields}
use Rattle.rvm_hart.specs.Fields as hart
use Rattle.rvm_board.specs.Board.{hart_at}
use Rattle.rvm_board.specs.Restored as board
use Rattle.rvm_board.specs.declared.part.HartPart.{HartPart}
use Rattle.rvm_board.specs.Guest.{Guest}

-- what a guest keeps for a hart
abbrev pub part_of : (h : ℕ) → Guest → HartPart
part_of h g =
    record {
      fields = hart.fields_of (hart_at h g.board);
      msip = get_or g.board.shared.devices.msip h false;
      mtimecmp = get_or g.board.shared.devices.mtimecmp h 0;
      reserved = get_or g.board.shared.reservations h None;
      stopped = get_or g.stopped h false;
    }

-- values that a guest with a RAM of this many bytes can keep for a hart
pub record CanBeHeld (size : ℕ) (p : HartPart) : Type 0 where
  pub fields : hart.CanBeHeld p.fields
  pub reserved : hart.is_in_ram size p.reserved ≡ true

-- the guest with other values that the devices keep for all harts, and other bytes in the queues
abbrev pub restored : DeviceFields → (input output : List ℕ) → Guest → Guest
restored f input output g = record g { board = board.restored f input output g.board }

-- the guest with other values that it keeps for one hart
abbrev pub hart_restored : (h : ℕ) → HartPart → Guest → Guest
hart_restored h p g =
    record g {
      board = board.hart_restored h p.fields p.msip p.mtimecmp p.reserved g.board;
      stopped = slice_set g.stopped h p.stopped;
    }
