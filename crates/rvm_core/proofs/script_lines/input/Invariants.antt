use Rattle.std.proofs.Common.{length}
use Rattle.rvm_board.specs.declared.event.BoardReply.TheVariants as answer
use Rattle.rvm_board.specs.Guest.{Guest}
use Rattle.rvm_message.specs.Replies.{reply_of}
use Rattle.rvm_protocol.specs.Replies.{Answered}
use Rattle.rvm_protocol.specs.Told.{Told}
use Rattle.rvm_core.specs.Worlds.{world_of}
use Rattle.rvm_core.specs.Runs.{standing}
use Rattle.rvm_core.specs.WorldScript.{inputs}
use Rattle.rvm_core.proofs.ScriptSteps.{InputsLeft}
use Rattle.rvm_core.proofs.script_lines.input.Given as goal

-- the bytes given so far, and those that are left, are all
abbrev pub invariant-loop-byte : goal.invariant-loop-byte
invariant-loop-byte g l =
    (t : Told Guest)
    → InputsLeft (inputs l.host l.fn.bytes (Answered answer.Done) (standing (world_of l.fn.world) t))
    l.host l.left (reply_of l.last) (world_of l.world)

abbrev pub decreases-loop-byte : goal.decreases-loop-byte
decreases-loop-byte g l = length l.left
