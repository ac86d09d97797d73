-- Pieces that are written into a board in order.
use Rattle.std.specs.Prelude.{◌≡◌, ℕ, ◌-◌, ◌≤◌, ◌^◌, true, List, [], ◌∷◌, ◌++◌, None, length, replicate}
use Rattle.rvm_mem.specs.Bytes.{replaced}
use Rattle.rvm_hart.specs.Machine.{HartState}
use Rattle.rvm_hart.specs.Bus.{ram_base}
use Rattle.rvm_board.specs.Board.{BoardState}
use Rattle.rvm_asm.specs.Images.{Piece}

-- the board with other bytes in RAM
abbrev pub with_ram : List ℕ → BoardState → BoardState
with_ram bytes b = record b { plain = record b.plain { shared = record b.plain.shared { bytes = bytes } } }

-- the board with other harts
abbrev pub with_harts : List HartState → BoardState → BoardState
with_harts harts b = record b { plain = record b.plain { harts = harts } }

-- no hart has a reservation, each page is in the dirty log, and RAM has at most 2 ^ 24 bytes
pub record IsBlank (b : BoardState) : Type 0 where
  pub reservations : b.plain.shared.reservations ≡ replicate (length b.plain.shared.reservations) None
  pub dirty : b.dirty ≡ replicate (length b.dirty) true
  pub size : length b.plain.shared.bytes ≤ 2 ^ 24

-- RAM with a piece and its zeros in it
abbrev pub placed : Piece → List ℕ → List ℕ
placed p ram = replaced (p.address - ram_base) (p.bytes ++ replicate p.zeros 0) ram

-- RAM with pieces written into it in order, so that a later one overwrites an earlier one
unfoldable pub placed_all : List Piece → List ℕ → List ℕ
placed_all [] ram = ram
placed_all (p ∷ ps) ram = placed_all ps (placed p ram)
