use Rattle.std.proofs.Common.{length}
use Rattle.rvm_command.proofs.Showing.{Encoded}
use Rattle.rvm_command.proofs.extended_answers.write_bytes.Given as goal

-- the digits so far, and those of the bytes that are left, are all
abbrev pub invariant-loop-rest : goal.invariant-loop-rest
invariant-loop-rest g l =
    Encoded l.bytes l.rest (g.W.Write.contents l.fn.writer) (g.W.Write.contents l.writer)

abbrev pub decreases-loop-rest : goal.decreases-loop-rest
decreases-loop-rest g l = length l.rest
