-- The state of a paused guest as it is sent.
use Rattle.std.specs.Prelude.{ℕ, length}
use Rattle.rvm_board.specs.Guest.{Guest}
use Rattle.rvm_guest.specs.TheGuest.{board}
use Rattle.rvm_message.specs.Answers.{BoardOutcome}
use Rattle.rvm_protocol.specs.Obeying.{sends_state}
use Rattle.rvm_protocol.specs.Replies.{StateSent, PartSent}
use Rattle.rvm_protocol.specs.Rounds.{Last, pieces_of}

-- the outcome of Copy that sends the state: whole or a piece of it, by the version of the stream
abbrev pub sends_state_of : (version move : ℕ) → Last Guest → BoardOutcome
sends_state_of version n l = sends_state board version StateSent (PartSent l.turn (length (pieces_of board l))) n l
