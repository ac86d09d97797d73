-- The plain board: what a guest can see, without its dirty log.
use Rattle.std.specs.Prelude.{◌≡◌, ℕ, ◌%◌, ◌<◌, ◌≤◌, Bool, ◌&&◌, ◌==◌, nat_lt, nat_le, List, length, get_or, slice_set, replicate, map, None}
use Rattle.std.specs.List.{range_with_len}
use Rattle.rvm_csr.specs.Registers as csr
use Rattle.rvm_dev.specs.Devices as dev
use Rattle.rvm_hart.specs.Machine.{HartState, Shared, Machine}
use Rattle.rvm_hart.specs.Step.{After, step}
use Rattle.rvm_hart.specs.declared.outcome.Stepped.{Stepped}

-- the harts, and what they share
pub record Board : Type 0 where
  pub harts : List HartState
  pub shared : Shared

-- a plain board, and for each page of its RAM whether it is in the dirty log
pub record BoardState : Type 0 where
  pub plain : Board
  pub dirty : List Bool

-- a hart after reset: it starts at the entry with its number in a0
abbrev pub new_hart : (entry number : ℕ) → HartState
new_hart entry number = record { regs = slice_set (replicate 32 0) 10 number; pc = entry; csrs = csr.at_reset number }

-- a hart of the board
abbrev pub hart_at : ℕ → Board → HartState
hart_at h b = get_or b.harts h (new_hart 0 0)

-- 1 to 8 harts, each of which has its index as its number, and some RAM; the devices and reservations are for as many
-- harts
pub record IsBoard (b : Board) : Type 0 where
  pub some : 0 < length b.harts
  pub bound : length b.harts ≤ 8
  pub numbers : (k : ℕ) → k < length b.harts → (hart_at k b).csrs.hart ≡ k
  pub reservations : length b.shared.reservations ≡ length b.harts
  pub msip : length b.shared.devices.msip ≡ length b.harts
  pub ram : 0 < length b.shared.bytes

-- a board after reset, with these bytes in RAM
abbrev pub at_reset : (harts entry : ℕ) → List ℕ → Board
at_reset harts entry bytes =
    record {
      harts = map (new_hart entry) (range_with_len 0 harts);
      shared = record { bytes = bytes; devices = dev.at_reset harts; reservations = replicate harts None };
    }

-- 1 to 8 harts, some RAM, and an entry that is a multiple of four
abbrev pub is_allowed : (harts entry : ℕ) → List ℕ → Bool
is_allowed harts entry bytes = nat_lt 0 harts && nat_le harts 8 && nat_lt 0 (length bytes) && entry % 4 == 0

-- a hart of the board and what it shares
abbrev pub machine_at : ℕ → Board → Machine
machine_at h b = record { hart = hart_at h b; shared = b.shared }

-- the board with one hart, and what the harts share, replaced
abbrev pub with_machine : ℕ → Machine → Board → Board
with_machine h m b = record { harts = slice_set b.harts h m.hart; shared = m.shared }

-- what a step of a hart leaves, the pages that it wrote, and its answer
pub record Stepping : Type 0 where
  pub board : Board
  pub pages : List ℕ
  pub answer : Stepped

-- what a step of a hart leaves, put back into the board
abbrev pub after : ℕ → After → Board → Stepping
after h a b = record { board = with_machine h a.machine b; pages = a.pages; answer = a.answer }

-- a step of the hart with this number
abbrev pub stepped : ℕ → Board → Stepping
stepped h b = after h (step (machine_at h b)) b

-- the board with other bytes waiting for the guest
abbrev pub with_input : List ℕ → Board → Board
with_input bytes b = record b { shared = record b.shared { devices = record b.shared.devices { input = bytes } } }

-- the board with other bytes that the guest sent and that were not taken
abbrev pub with_output : List ℕ → Board → Board
with_output bytes b = record b { shared = record b.shared { devices = record b.shared.devices { output = bytes } } }
