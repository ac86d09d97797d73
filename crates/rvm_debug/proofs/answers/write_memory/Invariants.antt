use Rattle.std.specs.Io.KnownBytes.{Appends}
use Rattle.rvm_debug.specs.Answers.{rows_text}
use Rattle.rvm_debug.proofs.answers.write_memory.Given as goal

-- the rows so far were written
abbrev pub invariant-loop-row : goal.invariant-loop-row
invariant-loop-row g l =
    Appends (g.W.Write.contents l.fn.writer) (g.W.Write.contents l.writer) (rows_text l.address l.bytes l.row)
