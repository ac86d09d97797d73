-- Loads and stores by address: RAM, devices, and whose reservations a store ends.
use Rattle.std.specs.Prelude.{ℕ, ◌+◌, ◌-◌, ◌/◌, ◌%◌, ◌^◌, Bool, false, ◌&&◌, nat_le, if◌then◌else◌, List, [], ◌∷◌, length, Option, Some, None, option_map, get_or}
use Rattle.rvm_mem.specs.Bytes.{load, store}
use Rattle.rvm_mem.specs.Pages.{mark_all}
use Rattle.rvm_csr.specs.declared.interrupts.Interrupts.{Interrupts}
use Rattle.rvm_dev.specs.declared.register.Register.{Register}
use Rattle.rvm_dev.specs.declared.register.Register.TheVariants as register
use Rattle.rvm_dev.specs.Devices as dev
use Rattle.rvm_res.specs.Reservations as res
use Rattle.rvm_hart.specs.Machine.{Shared, BusState}
use Rattle.rvm_hart.specs.declared.outcome.Written.{Written}
use Rattle.rvm_hart.specs.declared.outcome.Written.TheVariants.{Other, Mtime, Halt}

-- the address of RAM's first byte
abbrev pub ram_base : ℕ
ram_base = 0x80000000

-- the n bytes from an address are in RAM
abbrev pub in_ram : (n address : ℕ) → List ℕ → Bool
in_ram n a bytes = nat_le ram_base a && nat_le (a + n) (ram_base + length bytes)

-- the number in the n bytes of RAM from an address
abbrev pub ram_load : (n address : ℕ) → List ℕ → Option ℕ
ram_load n a bytes = if in_ram n a bytes then Some (load n (a - ram_base) bytes) else None

-- the word at an address, of RAM or a device
abbrev pub word_loaded : ℕ → Shared → Option ℕ
word_loaded a r = if in_ram 4 a r.bytes then Some (load 4 (a - ram_base) r.bytes) else dev.value_loaded a r.devices

-- what the harts share after the word is loaded, since a load may change a device
abbrev pub after_word_load : ℕ → Shared → Shared
after_word_load a r = if in_ram 4 a r.bytes then r else record r { devices = dev.loaded a r.devices }

-- what a store leaves, the pages that it wrote, and what it wrote that the end of the step must know
pub record Stored : Type 0 where
  pub shared : Shared
  pub pages : List ℕ
  pub wrote : Written

-- a store of a hart to the n bytes of RAM from an address on: their page is written, and other harts' reservations of
-- the word end
abbrev pub in_ram_stored : (n hart address value : ℕ) → Shared → Stored
in_ram_stored n hart a v r =
    record {
      shared = record r { bytes = store n (a - ram_base) v r.bytes; reservations = res.stored hart a r.reservations };
      pages = (a - ram_base) / 4096 ∷ [];
      wrote = Other;
    }

-- a store of a hart, if the n bytes from the address are in RAM
abbrev pub ram_stored : (n hart address value : ℕ) → Shared → Option Stored
ram_stored n hart a v r = if in_ram n a r.bytes then Some (in_ram_stored n hart a v r) else None

-- what a store to a device's word wrote
abbrev pub wrote_of : Register → (value : ℕ) → Written
wrote_of register.Halt v = Halt (v % 2 ^ 8)
wrote_of register.MtimeLow v = Mtime
wrote_of register.MtimeHigh v = Mtime
wrote_of r v = Other

-- a store of a word to a device, if one has a word at the address
abbrev pub device_stored : (address value : ℕ) → Shared → Option Stored
device_stored a v r =
    option_map (λ x. record { shared = record r { devices = dev.after_store x v r.devices }; pages = []; wrote = wrote_of x v })
    (dev.register_of a r.devices)

-- a store of a word, to RAM or a device
abbrev pub word_stored : (hart address value : ℕ) → Shared → Option Stored
word_stored hart a v r = if in_ram 4 a r.bytes then Some (in_ram_stored 4 hart a v r) else device_stored a v r

-- the bus after a store; unchanged if nothing was stored
abbrev pub left_by : Option Stored → BusState → BusState
left_by (Some s) b = record { shared = s.shared; dirty = mark_all s.pages b.dirty }
left_by None b = b

-- what a store wrote; none if nothing was stored
abbrev pub wrote_by : Option Stored → Option Written
wrote_by s = option_map (λ x. x.wrote) s

-- the interrupts that are pending at a hart (Privileged ISA, "Machine Interrupt (mip and mie) Registers")
abbrev pub mip_of : ℕ → dev.DeviceState → Interrupts
mip_of hart d =
    record {
      software = get_or d.msip hart false;
      timer = dev.timer_is_pending hart d;
      external = dev.external_is_pending hart d;
    }
