-- Consecutive steps of one hart, and marks of where it stops.
use Rattle.std.specs.Prelude.{ℕ, zero, suc, Bool, true, false, ◌&&◌, not, List, [], ◌∷◌, replicate}
use Rattle.rvm_hart.specs.Marks.{marked}
use Rattle.rvm_hart.specs.Machine.{Machine}
use Rattle.rvm_hart.specs.Straight as straight
use Rattle.rvm_board.specs.Board.{machine_at, with_machine}
use Rattle.rvm_board.specs.Guest.{Guest, is_in}
use Rattle.rvm_board.specs.Events.{with_board}

-- these marks, and the mark of each of these addresses
abbrev pub with_marks : List ℕ → List Bool → List Bool
with_marks [] marks = marks
with_marks (a ∷ xs) marks = with_marks xs (marked a marks)

-- the marks of some addresses
unfoldable pub marks_of : List ℕ → List Bool
marks_of xs = with_marks xs (replicate 4096 false)

-- none of the first n steps of a hart begins at a breakpoint
unfoldable pub none_stops : (breakpoints : List ℕ) → (n : ℕ) → Machine → Bool
none_stops bs zero m = true
none_stops bs (suc n) m = none_stops bs n m && not (is_in (straight.steps n m).machine.hart.pc bs)

-- a guest after n steps of hart h
abbrev pub gone : (h n : ℕ) → Guest → Guest
gone h n g = with_board (with_machine h (straight.steps n (machine_at h g.board)).machine g.board) g
