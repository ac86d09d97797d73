-- The bytes of the frame that a host made.
use Rattle.std.specs.Prelude.{◌≡◌, ℕ, List, Option, Some, None}
use Rattle.rvm_frame.specs.declared.addressed.Addressed.{Addressed}
use Rattle.rvm_frame.specs.Grammar.{Spells, sent}
use Rattle.rvm_message.specs.Frames.{addressed_of}
use Rattle.rvm_protocol.specs.Frames as protocol

-- the bytes are the spelling, in streams of this version, of a frame of the protocol with the hosts between which it
-- goes
pub record IsSpelled (version : ℕ) (made : protocol.Addressed (List ℕ) (List ℕ)) (bytes : List ℕ) : Type 0 where
  pub frame : Addressed
  pub is : addressed_of frame ≡ made
  pub spells : Spells (Some version) bytes (sent version frame)

-- the bytes are the spelling of the frame that was made, if any; there are none if there is no frame
abbrev pub AreSpelled : (version : ℕ) → Option (protocol.Addressed (List ℕ) (List ℕ)) → Option (List ℕ) → Type 0
AreSpelled version None None = Unit {0}
AreSpelled version (Some made) (Some bytes) = IsSpelled version made bytes
AreSpelled version None (Some bytes) = ⊥
AreSpelled version (Some made) None = ⊥
