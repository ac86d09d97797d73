-- Marks, each of which stands for the addresses that are equal in their low 12 bits.
use Rattle.std.specs.Prelude.{ℕ, ◌%◌, Bool, true, false, ◌&&◌, not, List, get_or, slice_set}

-- an address has a mark
abbrev pub is_marked : ℕ → List Bool → Bool
is_marked a marks = get_or marks (a % 4096) false

-- these marks, and the mark of one more address
abbrev pub marked : ℕ → List Bool → List Bool
marked a marks = slice_set marks (a % 4096) true

-- an address has no mark, or marks are not watched
abbrev pub passes : (watched : Bool) → List Bool → ℕ → Bool
passes watched marks a = not (watched && is_marked a marks)
