-- The answer of a host and the mode after it, as an outcome of the protocol of live migration.
use Rattle.std.specs.Prelude.{◌≡◌, ℕ, List, Option}
use Rattle.rvm_board.specs.declared.event.BoardReply.{BoardReply}
use Rattle.rvm_board.specs.Guest.{Guest}
use Rattle.rvm_protocol.specs.Frames.{made_as}
use Rattle.rvm_protocol.specs.Modes.{Mode, Outcome}
use Rattle.rvm_guest.specs.TheGuest.{board}
use Rattle.rvm_frame.specs.declared.frame.Frame.{Frame}
use Rattle.rvm_message.specs.declared.reply.HostReply.{HostReply}
use Rattle.rvm_message.specs.Frames.{frame_made}
use Rattle.rvm_message.specs.Replies.{reply_of}

-- a mode of the protocol, for the guest `board`
abbrev pub BoardMode : Type 0
BoardMode = Mode Guest (List ℕ)

-- an outcome of the protocol, for the guest `board`
abbrev pub BoardOutcome : Type 0
BoardOutcome = Outcome Guest (List ℕ) BoardReply (List ℕ)

-- in streams of this version, the answer and the mode after it are those of an outcome
pub record Answers (version : ℕ) (o : BoardOutcome) (answer : HostReply × Option Frame) (next : BoardMode) : Type 0 where
  pub reply : reply_of answer.0 ≡ o.reply
  pub made : frame_made answer.1 ≡ made_as board version o.made
  pub mode : next ≡ o.next
