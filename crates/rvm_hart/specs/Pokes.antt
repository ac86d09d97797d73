-- What a debugger's writes do to a hart and to what the harts share.
use Rattle.std.specs.Prelude.{ℕ, zero, suc, ◌+◌, ◌-◌, ◌%◌, ◌==◌, if◌then◌else◌, List, Option, None, true, length, replicate}
use Rattle.rvm_mem.specs.Bytes.{replaced}
use Rattle.rvm_mem.specs.Pages.{byte_pages, mark_all}
use Rattle.rvm_res.specs.Reservations.{poked}
use Rattle.rvm_hart.specs.Machine.{HartState, Shared, BusState}
use Rattle.rvm_hart.specs.Bus.{ram_base}
use Rattle.rvm_hart.specs.Outcome.{with_register}

-- a hart with one register set from outside: x0 to x31 by 0 to 31, or pc by 32; bits 1 and 0 of pc
-- are cleared
abbrev pub register_poked : (register value : ℕ) → HartState → HartState
register_poked r v h = if r == 32 then record h { pc = v - v % 4 } else record h { regs = with_register r v h.regs }

-- the reservations after n bytes from an address were written: each byte ends those of its word
unfoldable pub poked_each : (address n : ℕ) → List (Option ℕ) → List (Option ℕ)
poked_each a zero words = words
poked_each a (suc n) words = poked (a + n) (poked_each a n words)

-- what the harts share after these bytes were written from an address of RAM on
abbrev pub memory_poked : (address : ℕ) → List ℕ → Shared → Shared
memory_poked a bytes r =
    record r {
      bytes = replaced (a - ram_base) bytes r.bytes;
      reservations = poked_each a (length bytes) r.reservations;
    }

-- the bus after these bytes were written, with the page of each in the dirty log
abbrev pub bus_poked : (address : ℕ) → List ℕ → BusState → BusState
bus_poked a bytes b =
    record {
      shared = memory_poked a bytes b.shared;
      dirty = mark_all (byte_pages (a - ram_base) (length bytes)) b.dirty;
    }

-- what the harts share with zeros in RAM and no reservation
abbrev pub memory_cleared : Shared → Shared
memory_cleared r =
    record r {
      bytes = replicate (length r.bytes) 0;
      reservations = replicate (length r.reservations) None;
    }

-- the bus with zeros in RAM and no reservation, and each page in the dirty log
abbrev pub bus_cleared : BusState → BusState
bus_cleared b = record { shared = memory_cleared b.shared; dirty = replicate (length b.dirty) true }
