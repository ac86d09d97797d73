-- The word of RAM at an address.
use Rattle.std.specs.Prelude.{ℕ, ◌%◌, ◌==◌, if◌then◌else◌, Option, None}
use Rattle.rvm_hart.specs.Bus.{ram_load}
use Rattle.rvm_board.specs.Guest.{Guest}

-- the word of RAM at an address, if that is a multiple of four in RAM
abbrev pub word_at : (address : ℕ) → Guest → Option ℕ
word_at a g = if a % 4 == 0 then ram_load 4 a g.board.shared.bytes else None
