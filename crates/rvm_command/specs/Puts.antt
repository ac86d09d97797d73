-- What was written of a saved guest so far.
use Rattle.std.specs.Prelude.{ℕ, List, Option}
use Rattle.std.specs.Io.KnownBytes.{Appends}
use Rattle.rvm_frame.specs.declared.frame.Frame.{Frame}
use Rattle.rvm_command.specs.Streams.{AreSpelled, bytes_of}

-- these frames were written, each of which has a spelling
pub record Puts (before after : Option (List ℕ)) (fs : List Frame) : Type 0 where
  pub text : Appends before after (bytes_of fs)
  pub spelled : AreSpelled fs
