-- A hart, and what the harts share, from plain values.
use Rattle.std.specs.Prelude.{◌≡◌, ℕ, ◌+◌, ◌%◌, Bool, true, ◌&&◌, ◌==◌, nat_le, List, ◌∷◌, drop, Option, None, Some, slice_set}
use Rattle.std.specs.List.{list_all}
use Rattle.rvm_csr.specs.Fields as csr
use Rattle.rvm_dev.specs.Shared as dev
use Rattle.rvm_hart.specs.declared.fields.HartFields.{HartFields}
use Rattle.rvm_hart.specs.Machine.{HartState, Shared}
use Rattle.rvm_hart.specs.Bus.{ram_base}

-- the hart with this number and these values
abbrev pub with_number : ℕ → HartFields → HartState
with_number number f =
    record { regs = 0 ∷ f.registers; pc = f.pc; csrs = csr.with_number number f.csrs }

-- the values that a hart keeps
abbrev pub fields_of : HartState → HartFields
fields_of h = record { registers = drop 1 h.regs; pc = h.pc; csrs = csr.fields_of h.csrs }

-- values that a hart can keep
pub record CanBeHeld (f : HartFields) : Type 0 where
  pub pc : f.pc % 4 ≡ 0
  pub csrs : csr.CanBeHeld f.csrs

-- a word is aligned, and in a RAM of this many bytes
abbrev pub is_ram_word : (size address : ℕ) → Bool
is_ram_word size a = a % 4 == 0 && nat_le ram_base a && nat_le (a + 4) (ram_base + size)

-- a reservation, if there is one, is of such a word
abbrev pub is_in_ram : (size : ℕ) → Option ℕ → Bool
is_in_ram size None = true
is_in_ram size (Some a) = is_ram_word size a

-- each reservation is of such a word
abbrev pub are_in_ram : (size : ℕ) → List (Option ℕ) → Bool
are_in_ram size words = list_all (is_in_ram size) words

-- what the harts share, with new device words and a new reservation for one hart
abbrev pub hart_restored : (hart : ℕ) → (msip : Bool) → (mtimecmp : ℕ) → Option ℕ → Shared → Shared
hart_restored h msip mtimecmp reserved r =
    record r {
      devices = dev.hart_restored h msip mtimecmp r.devices;
      reservations = slice_set r.reservations h reserved;
    }
