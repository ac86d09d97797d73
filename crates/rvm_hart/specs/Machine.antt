-- What a step of one hart sees and changes: the hart, and what all harts share.
use Rattle.std.specs.Prelude.{ℕ, List, [], ◌∷◌, Bool, Option, length}
use Rattle.rvm_csr.specs.Registers.{CsrState}
use Rattle.rvm_dev.specs.Devices.{DeviceState}

-- a hart: x0 to x31, of which x0 is 0, the address of the next instruction, its control and status registers
pub record HartState : Type 0 where
  pub regs : List ℕ
  pub pc : ℕ
  pub csrs : CsrState

-- what the harts share: the bytes of RAM, the devices, and the word that each hart reserved
pub record Shared : Type 0 where
  pub bytes : List ℕ
  pub devices : DeviceState
  pub reservations : List (Option ℕ)

-- one hart and what it shares with the others
pub record Machine : Type 0 where
  pub hart : HartState
  pub shared : Shared

-- a bus: what the harts share, and for each page of RAM whether it is in the dirty log
pub record BusState : Type 0 where
  pub shared : Shared
  pub dirty : List Bool

-- a bus with other devices
abbrev pub with_devices : DeviceState → BusState → BusState
with_devices d b = record b { shared = record b.shared { devices = d } }

-- a bus with other reservations
abbrev pub with_reservations : List (Option ℕ) → BusState → BusState
with_reservations words b = record b { shared = record b.shared { reservations = words } }

-- a hart on a bus: what its step sees and changes
abbrev pub machine : HartState → BusState → Machine
machine h b = record { hart = h; shared = b.shared }

-- the number of the hart that steps
abbrev pub number_of : Machine → ℕ
number_of m = m.hart.csrs.hart

-- the sizes that no step changes: of RAM, and the number of harts that the reservations and devices are for
abbrev pub shared_shape : Shared → List ℕ
shared_shape r = length r.bytes ∷ length r.reservations ∷ length r.devices.msip ∷ length r.devices.mtimecmp ∷ []

-- what no step changes: the hart's number, and the sizes of what the harts share
abbrev pub shape : Machine → List ℕ
shape m = number_of m ∷ shared_shape m.shared
