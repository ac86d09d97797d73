-- What the fields of the devices show, and what always holds of them.
use Rattle.std.specs.Prelude.{◌≡◌, ◌≤◌, length, take}
use Rattle.rvm_dev.specs.declared.devices.Devices.TheInside.{Inside}
use Rattle.rvm_dev.specs.Devices.{DeviceState}

-- the words of each hart, and the bytes in the queues
abbrev pub state_of : Inside → DeviceState
state_of d =
    record {
      msip = take d.harts d.msip;
      mtimecmp = take d.harts d.mtimecmp;
      mtime = d.mtime;
      input = d.input.items;
      output = d.output.items;
      interrupt_enable = d.interrupt_enable;
      overrun = d.overrun;
      halted = d.halted;
    }

-- there are at most 8 harts, each has its words, and no queue has more bytes than it may
pub record IsKept (d : Inside) : Type 0 where
  pub harts : d.harts ≤ 8
  pub msip : d.harts ≤ length d.msip
  pub mtimecmp : d.harts ≤ length d.mtimecmp
  pub input_capacity : d.input.capacity ≡ 16
  pub input : length d.input.items ≤ 16
  pub output_capacity : d.output.capacity ≡ 4096
  pub output : length d.output.items ≤ 4096
