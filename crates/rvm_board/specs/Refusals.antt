-- Why there is no board, and why a write from outside was refused, in the list of all refusals.
use Rattle.rvm_refusal.specs.declared.refusal.Refusal.{Refusal}
use Rattle.rvm_refusal.specs.declared.refusal.Refusal.TheVariants as refusal
use Rattle.rvm_board.specs.declared.error.BoardError.{BoardError}
use Rattle.rvm_board.specs.declared.error.BoardError.TheVariants as board
use Rattle.rvm_board.specs.declared.error.PokeError.{PokeError}
use Rattle.rvm_board.specs.declared.error.PokeError.TheVariants as poke

-- why a board was not made
abbrev pub refusal_of_board : BoardError → Refusal
refusal_of_board board.BadSize = refusal.BadSize
refusal_of_board board.OutOfMemory = refusal.OutOfMemory

-- why a write from outside was refused
abbrev pub refusal_of_poke : PokeError → Refusal
refusal_of_poke poke.BadHart = refusal.BadHart
refusal_of_poke poke.OutOfRange = refusal.OutOfRange
