-- Entries that are passed at once.
use Rattle.std.specs.Prelude.{◌≡◌, ℕ, ◌+◌, ◌≤◌, List, ◌++◌, drop, length, take}
use Rattle.rvm_recorder.specs.Entries.{PlainEntry}
use Rattle.rvm_recorder.specs.Items.{steps_in_turn}

-- after the first `skipped` of these entries, whatever rest follows them, the next n are steps of this many harts
-- from a turn on
abbrev pub IsPassed : List PlainEntry → (skipped turn harts n : ℕ) → List PlainEntry → Type 0
IsPassed xs skipped turn harts n rest =
    drop skipped (xs ++ rest) ≡ steps_in_turn turn harts n ++ drop (skipped + n) (xs ++ rest)

-- these entries begin as others do: the first n of both are the same
pub record AreFirst (n : ℕ) (others xs : List PlainEntry) : Type 0 where
  pub there : n ≤ length xs
  pub same : take n xs ≡ take n others
