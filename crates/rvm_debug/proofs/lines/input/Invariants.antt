use Rattle.std.proofs.Common.{length}
use Rattle.rvm_debug.specs.Script.{inputs}
use Rattle.rvm_debug.proofs.Running.{Inputs}
use Rattle.rvm_debug.proofs.lines.input.Given as goal

-- the bytes so far and those that are left are all
abbrev pub invariant-loop-byte : goal.invariant-loop-byte
invariant-loop-byte g l =
    Inputs (inputs l.fn.bytes l.fn.board.guest) (inputs l.left l.board.guest) l.fn.board.dirty l.board.dirty

abbrev pub decreases-loop-byte : goal.decreases-loop-byte
decreases-loop-byte g l = length l.left
