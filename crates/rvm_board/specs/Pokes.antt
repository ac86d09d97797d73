-- Writes from outside, as a debugger makes them.
use Rattle.std.specs.Prelude.{ℕ, Bool, ◌&&◌, nat_lt, nat_le, List, slice_set}
use Rattle.rvm_hart.specs.Bus.{in_ram}
use Rattle.rvm_hart.specs.Machine.{BusState}
use Rattle.rvm_hart.specs.Pokes as hart
use Rattle.rvm_board.specs.Board.{Board, BoardState, hart_at}

-- the board with a register of a hart set: x0 to x31 by 0 to 31, or pc by 32
abbrev pub register_poked : (h register value : ℕ) → Board → Board
register_poked h r v b = record b { harts = slice_set b.harts h (hart.register_poked r v (hart_at h b)) }

-- 1 to 256 bytes from an address on are wholly in RAM
abbrev pub is_view : (address count : ℕ) → Board → Bool
is_view a n b = nat_lt 0 n && nat_le n 256 && in_ram n a b.shared.bytes

-- the bus that the harts of a board share
abbrev pub bus_of : BoardState → BusState
bus_of b = record { shared = b.plain.shared; dirty = b.dirty }

-- the board after these bytes were written from an address of RAM on: their pages are in the dirty log, and the
-- reservations of their words end
abbrev pub memory_poked : (address : ℕ) → List ℕ → BoardState → BoardState
memory_poked a bytes b =
    let after = hart.bus_poked a bytes (bus_of b) in
    record { plain = record { harts = b.plain.harts; shared = after.shared }; dirty = after.dirty }

-- the board with zeros in RAM, each page in the dirty log, and no reservation
abbrev pub cleared : BoardState → BoardState
cleared b =
    let after = hart.bus_cleared (bus_of b) in
    record { plain = record { harts = b.plain.harts; shared = after.shared }; dirty = after.dirty }
