-- The one encoding of a guest, called its spelling.
use Rattle.std.specs.Prelude.{◌≡◌, ◌<◌, ◌+◌, ◌*◌, ℕ, true, List, length}
use Rattle.rvm_board.specs.Guest.{Guest}
use Rattle.rvm_board.specs.State.{guest_of, state_of}
use Rattle.rvm_state.specs.Formats.{state}

-- the bytes of a guest without its RAM
abbrev pub spelling : Guest → List ℕ
spelling g = (state (length g.board.shared.bytes)).write (state_of g)

-- the most bytes of a guest without its RAM: 13 for all harts together and 187 for each of at most 8, then at most 16
-- bytes of input, 4096 of output and 64 breakpoints of four bytes, each of the three with its count
abbrev pub longest : ℕ
longest = 13 + 8 * 187 + (1 + 16) + (2 + 4096) + (1 + 4 * 64)

-- a guest that its bytes and its RAM determine: its values have a spelling, and it is made of them
pub record HasSpelling (g : Guest) : Type 0 where
  pub fits : (state (length g.board.shared.bytes)).fits (state_of g) ≡ true
  pub made : guest_of g.board.shared.bytes (state_of g) ≡ g

-- these bytes spell a guest whose RAM has these bytes, at least one
pub record Spells (bytes ram : List ℕ) (g : Guest) : Type 0 where
  pub has_ram : g.board.shared.bytes ≡ ram
  pub some_ram : 0 < length ram
  pub has_spelling : HasSpelling g
  pub spelled : bytes ≡ spelling g
