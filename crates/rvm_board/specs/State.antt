-- A guest without its RAM, as plain values.
use Rattle.std.specs.Prelude.{ℕ, ◌+◌, List, [], ◌∷◌, length, map}
use Rattle.std.specs.List.{range_with_len}
use Rattle.rvm_dev.specs.declared.fields.DeviceFields.{DeviceFields}
use Rattle.rvm_dev.specs.Devices.{DeviceState}
use Rattle.rvm_dev.specs.Shared.{fields_of}
use Rattle.rvm_hart.specs.Machine.{HartState}
use Rattle.rvm_hart.specs.Fields.{with_number}
use Rattle.rvm_board.specs.declared.part.HartPart.{HartPart}
use Rattle.rvm_board.specs.Guest.{Guest}
use Rattle.rvm_board.specs.Parts.{part_of}

-- what is kept for each hart, what the devices keep for all harts, the queues, oldest byte first, and the breakpoints
pub record State : Type 0 where
  pub harts : List HartPart
  pub shared : DeviceFields
  pub input : List ℕ
  pub output : List ℕ
  pub breakpoints : List ℕ

-- what a guest keeps for each hart
abbrev pub parts_of : Guest → List HartPart
parts_of g = map (λ h. part_of h g) (range_with_len 0 (length g.board.harts))

-- a guest without its RAM
abbrev pub state_of : Guest → State
state_of g =
    record {
      harts = parts_of g;
      shared = fields_of g.board.shared.devices;
      input = g.board.shared.devices.input;
      output = g.board.shared.devices.output;
      breakpoints = g.breakpoints;
    }

-- harts that keep these values, numbered from h on
abbrev pub numbered : (h : ℕ) → List HartPart → List HartState
numbered h [] = []
numbered h (p ∷ ps) = with_number h p.fields ∷ numbered (h + 1) ps

-- the devices of a guest
abbrev pub devices_of : State → DeviceState
devices_of s =
    record {
      msip = map (λ p. p.msip) s.harts;
      mtimecmp = map (λ p. p.mtimecmp) s.harts;
      mtime = s.shared.mtime;
      input = s.input;
      output = s.output;
      interrupt_enable = s.shared.interrupt_enable;
      overrun = s.shared.overrun;
      halted = s.shared.halted;
    }

-- the guest with these bytes in its RAM
abbrev pub guest_of : List ℕ → State → Guest
guest_of ram s =
    record {
      board = record {
        harts = numbered 0 s.harts;
        shared = record {
          bytes = ram;
          devices = devices_of s;
          reservations = map (λ p. p.reserved) s.harts;
        };
      };
      breakpoints = s.breakpoints;
      stopped = map (λ p. p.stopped) s.harts;
    }
