-- Frames that can be sent in a stream.
use Rattle.std.specs.Prelude.{◌≡◌, ℕ, ◌≤◌, true, length, Option, Some, None}
use Rattle.rvm_codec.specs.Numbers.{within}
use Rattle.rvm_frame.specs.declared.frame.Frame.{Frame}
use Rattle.rvm_frame.specs.Grammar.{body_fits, body_of}
use Rattle.rvm_frame.specs.Kinds.{kind_of, move_fits, move_of, stands}

-- the frame may stand in a stream of this version after Hello, its values are within their limits, and its body has at
-- most this many bytes
pub record IsSendable (version most : ℕ) (f : Frame) : Type 0 where
  pub stands : stands (Some version) (kind_of f) ≡ true
  pub move_number : move_fits (kind_of f) (move_of f) ≡ true
  pub body : body_fits f ≡ true
  pub body_length : length (body_of f) ≤ most

-- a frame that was made, if any, can be sent in versions 1 to 3, with at most `most` bytes of body; if `most` is None,
-- no frame was made
abbrev pub CanBeSent : (version : ℕ) → (most : Option ℕ) → Option Frame → Type 0
CanBeSent version most None = Unit {0}
CanBeSent version None (Some f) = ⊥
CanBeSent version (Some n) (Some f) = within 1 3 version ≡ true → IsSendable version n f
