-- A board that was loaded with an image.
use Rattle.std.specs.Prelude.{ℕ, ◌+◌, ◌%◌, Bool, true, ◌&&◌, ◌||◌, ◌==◌, nat_le, List, [], ◌∷◌, None, length, map, replicate}
use Rattle.std.specs.List.{range_with_len}
use Rattle.std.specs.Option.{unwrap_or}
use Rattle.rvm_hart.specs.Machine.{HartState}
use Rattle.rvm_hart.specs.Bus.{ram_base}
use Rattle.rvm_board.specs.Board.{Board}
use Rattle.rvm_asm.specs.Images.{Piece, size, byte_at}

-- n bytes from an address on lie in a RAM of this many bytes
abbrev pub is_within : (n address count : ℕ) → Bool
is_within n a count = nat_le ram_base a && nat_le (a + n) (ram_base + count)

-- a piece has neither bytes nor zeros, or lies in RAM
abbrev pub piece_fits : Piece → (count : ℕ) → Bool
piece_fits p count = size p == 0 || is_within (size p) p.address count

-- each piece has neither bytes nor zeros, or lies in RAM
unfoldable pub pieces_fit : List Piece → (count : ℕ) → Bool
pieces_fit [] count = true
pieces_fit (p ∷ ps) count = piece_fits p count && pieces_fit ps count

-- the entry is a multiple of four in RAM, and each piece fits
abbrev pub fits : (entry : ℕ) → List Piece → (count : ℕ) → Bool
fits entry pieces count = entry % 4 == 0 && is_within 1 entry count && pieces_fit pieces count

-- this many bytes of RAM: those of the pieces, and zeros elsewhere
abbrev pub ram_of : (count : ℕ) → List Piece → List ℕ
ram_of count pieces = map (λ k. unwrap_or (byte_at pieces (ram_base + k)) 0) (range_with_len 0 count)

-- a hart that goes on at the entry
abbrev pub at_entry : ℕ → HartState → HartState
at_entry entry h = record h { pc = entry }

-- the board with the pieces in RAM, each hart at the entry, and no reservation
abbrev pub loaded : (entry : ℕ) → List Piece → Board → Board
loaded entry pieces b =
    record {
      harts = map (at_entry entry) b.harts;
      shared = record b.shared {
        bytes = ram_of (length b.shared.bytes) pieces;
        reservations = replicate (length b.shared.reservations) None;
      };
    }
