-- What the writer appends to the bytes that were there.
use Rattle.std.specs.Prelude.{◌≡◌, ℕ, ◌+◌, ◌*◌, true, List, ◌++◌, length}
use Rattle.std.specs.List.{flat_map, list_all}
use Rattle.rvm_codec.specs.Codec.{Codec}
use Rattle.rvm_board.specs.State.{State}

-- a value that fits was appended, as its codec writes it
pub record Writes {A : Type 0} (c : Codec A) (a : A) (old new : List ℕ) : Type 0 where
  pub bytes : new ≡ old ++ c.write a
  pub fits : c.fits a ≡ true

-- consecutive values, all of which fit, were appended, each as the codec writes it
pub record WritesEach {A : Type 0} (c : Codec A) (xs : List A) (old new : List ℕ) : Type 0 where
  pub bytes : new ≡ old ++ flat_map c.write xs
  pub fits : list_all c.fits xs ≡ true

-- the number of bytes of a guest's values
abbrev pub length_of : State → ℕ
length_of s =
    13 + 187 * length s.harts + (1 + length s.input) + (2 + length s.output) + (1 + 4 * length s.breakpoints)
