-- What the devices keep, and what a load or a store of each word does.
use Rattle.std.specs.Prelude.{ℕ, ◌+◌, ◌-◌, ◌%◌, ◌^◌, Bool, true, false, ◌&&◌, not, ◌==◌, nat_lt, nat_le, if◌then◌else◌, List, [], ◌∷◌, ◌++◌, length, Option, Some, None, option_map, get_or, slice_set, replicate, drop}
use Rattle.rvm_word.specs.Bits.{bit, is_set, low_half, high_half, with_low, with_high}
use Rattle.rvm_dev.specs.declared.register.Register.{Register}
use Rattle.rvm_dev.specs.declared.register.Register.TheVariants.{Halt, Msip, MtimecmpLow, MtimecmpHigh, MtimeLow, MtimeHigh, Transmit, Receive, Status, InterruptEnable}
use Rattle.rvm_dev.specs.Map.{register_at}

-- msip and mtimecmp have one value for each hart; input and output are queues, oldest byte first
pub record DeviceState : Type 0 where
  pub msip : List Bool
  pub mtimecmp : List ℕ
  pub mtime : ℕ
  pub input : List ℕ
  pub output : List ℕ
  pub interrupt_enable : Bool
  pub overrun : Bool
  pub halted : Option ℕ

-- at reset mtimecmp is all ones, all else 0
abbrev pub at_reset : ℕ → DeviceState
at_reset harts =
    record {
      msip = replicate harts false;
      mtimecmp = replicate harts (2 ^ 64 - 1);
      mtime = 0;
      input = [];
      output = [];
      interrupt_enable = false;
      overrun = false;
      halted = None;
    }

-- the oldest byte of input, or all ones if there is none
abbrev pub received : List ℕ → ℕ
received [] = 2 ^ 32 - 1
received (b ∷ bytes) = b

-- a byte of input waits for the guest
abbrev pub is_waiting : List ℕ → Bool
is_waiting bytes = nat_lt 0 (length bytes)

-- the output queue has room for a byte
abbrev pub has_room : List ℕ → Bool
has_room output = nat_lt (length output) 4096

-- the value that a load of a word gives
abbrev pub value_of : Register → DeviceState → ℕ
value_of Halt d = 0
value_of (Msip h) d = bit 1 (get_or d.msip h false)
value_of (MtimecmpLow h) d = low_half (get_or d.mtimecmp h 0)
value_of (MtimecmpHigh h) d = high_half (get_or d.mtimecmp h 0)
value_of MtimeLow d = low_half d.mtime
value_of MtimeHigh d = high_half d.mtime
value_of Transmit d = 0
value_of Receive d = received d.input
value_of Status d = bit 1 (is_waiting d.input) + bit 2 (has_room d.output) + bit 4 d.overrun
value_of InterruptEnable d = bit 1 d.interrupt_enable

-- the devices after a load: a load of the receive word takes its byte
abbrev pub after_load : Register → DeviceState → DeviceState
after_load Receive d = record d { input = drop 1 d.input }
after_load r d = d

-- the guest sends a byte; if the output queue is full, the byte is dropped and overrun is set
abbrev pub sent : ℕ → DeviceState → DeviceState
sent byte d =
    if has_room d.output
    then record d { output = d.output ++ byte ∷ [] }
    else record d { overrun = true }

-- the devices after a store of v
abbrev pub after_store : Register → ℕ → DeviceState → DeviceState
after_store Halt v d = record d { halted = Some (v % 2 ^ 8) }
after_store (Msip h) v d = record d { msip = slice_set d.msip h (is_set 0 v) }
after_store (MtimecmpLow h) v d =
    record d { mtimecmp = slice_set d.mtimecmp h (with_low v (get_or d.mtimecmp h 0)) }
after_store (MtimecmpHigh h) v d =
    record d { mtimecmp = slice_set d.mtimecmp h (with_high v (get_or d.mtimecmp h 0)) }
after_store MtimeLow v d = record d { mtime = with_low v d.mtime }
after_store MtimeHigh v d = record d { mtime = with_high v d.mtime }
after_store Transmit v d = sent (v % 2 ^ 8) d
after_store Receive v d = d
after_store Status v d = record d { overrun = d.overrun && not (is_set 2 v) }
after_store InterruptEnable v d = record d { interrupt_enable = is_set 0 v }

-- the device word at an address
abbrev pub register_of : ℕ → DeviceState → Option Register
register_of address d = register_at (length d.msip) address

-- the value that a load at an address gives, if a device has a word there
abbrev pub value_loaded : ℕ → DeviceState → Option ℕ
value_loaded address d = option_map (λ r. value_of r d) (register_of address d)

-- the devices after a load of a word; without a word nothing changes
abbrev pub loaded_from : Option Register → DeviceState → DeviceState
loaded_from None d = d
loaded_from (Some r) d = after_load r d

-- the devices after a load at an address
abbrev pub loaded : ℕ → DeviceState → DeviceState
loaded address d = loaded_from (register_of address d) d

-- the devices after a store at an address, if a device has a word there
abbrev pub stored : ℕ → ℕ → DeviceState → Option DeviceState
stored address v d = option_map (λ r. after_store r v d) (register_of address d)

-- the timer interrupt of a hart is pending if mtime has reached its mtimecmp, compared unsigned
-- (Privileged ISA, "Machine Timer (mtime and mtimecmp) Registers")
abbrev pub timer_is_pending : ℕ → DeviceState → Bool
timer_is_pending hart d = nat_le (get_or d.mtimecmp hart 0) d.mtime

-- the console interrupts hart 0 while it is enabled and a byte of input waits
abbrev pub external_is_pending : ℕ → DeviceState → Bool
external_is_pending hart d = hart == 0 && d.interrupt_enable && is_waiting d.input
