-- The devices' registers as plain values.
use Rattle.std.specs.Prelude.{ℕ, Bool, List, slice_set}
use Rattle.rvm_dev.specs.declared.fields.DeviceFields.{DeviceFields}
use Rattle.rvm_dev.specs.Devices.{DeviceState}

-- the values that the devices keep for all harts, without the queues
abbrev pub fields_of : DeviceState → DeviceFields
fields_of d =
    record { mtime = d.mtime; interrupt_enable = d.interrupt_enable; overrun = d.overrun; halted = d.halted }

-- the devices with other values for all harts, and other bytes in the queues
abbrev pub restored : DeviceFields → (input output : List ℕ) → DeviceState → DeviceState
restored f input output d =
    record d {
      mtime = f.mtime;
      input = input;
      output = output;
      interrupt_enable = f.interrupt_enable;
      overrun = f.overrun;
      halted = f.halted;
    }

-- the devices with other words of one hart
abbrev pub hart_restored : (hart : ℕ) → (msip : Bool) → (mtimecmp : ℕ) → DeviceState → DeviceState
hart_restored h msip mtimecmp d =
    record d { msip = slice_set d.msip h msip; mtimecmp = slice_set d.mtimecmp h mtimecmp }
