-- The valid guests: those that can be met.
use Rattle.std.specs.Prelude.{ℕ, ◌+◌, ◌%◌, Bool, true, ◌&&◌, ◌==◌, List, [], ◌∷◌, length, get_or}
use Rattle.rvm_codec.specs.Numbers.{within}
use Rattle.rvm_hart.specs.Machine.{HartState}
use Rattle.rvm_board.specs.Guest.{Guest}
use Rattle.rvm_guest.specs.Pages.{count_of, size_of}

-- the hart has this number and 32 registers, of which x0 is 0
abbrev pub is_hart : (number : ℕ) → HartState → Bool
is_hart n h = (h.csrs.hart == n) && ((length h.regs == 32) && (get_or h.regs 0 0 == 0))

-- the harts are valid, and are numbered in order from this first number on
abbrev pub are_harts : (first : ℕ) → List HartState → Bool
are_harts n [] = true
are_harts n (h ∷ hs) = is_hart n h && are_harts (n + 1) hs

-- each hart is valid and has its index as its number; devices, reservations and stops are for as many harts; RAM has 1
-- to 4096 whole pages
unfoldable pub is_valid : Guest → Bool
is_valid g =
    let n = length g.board.harts in
    are_harts 0 g.board.harts
    && ((length g.board.shared.devices.msip == n)
    && ((length g.board.shared.devices.mtimecmp == n)
    && ((length g.board.shared.reservations == n)
    && ((length g.stopped == n)
    && ((size_of g % 4096 == 0) && within 1 4096 (count_of g))))))
