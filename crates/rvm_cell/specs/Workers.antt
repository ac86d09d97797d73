-- The workers of a move by their numbers.
use Rattle.std.specs.Prelude.{ℕ}
use Rattle.rvm_cell.specs.declared.gate.Worker.{Worker}
use Rattle.rvm_cell.specs.declared.gate.Worker.TheVariants.{Harts, Copier, ReceiverAtA, ReceiverAtB}

-- the number of each worker, from 0
abbrev pub number_of : Worker → ℕ
number_of Harts = 0
number_of Copier = 1
number_of ReceiverAtA = 2
number_of ReceiverAtB = 3
