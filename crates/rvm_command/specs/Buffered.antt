-- Output that waits in a buffer before it is written.
use Rattle.std.specs.Prelude.{◌≡◌, ℕ, List, ◌++◌, Option}
use Rattle.std.specs.Io.KnownBytes.{Appends}

-- bytes joined those that were held: the first of all these were written, and the others are held
pub record GoesOut (bytes held left : List ℕ) (before after : Option (List ℕ)) : Type 0 where
  pub out : List ℕ
  pub all : held ++ bytes ≡ out ++ left
  pub text : Appends before after out
