use Rattle.rvm_journal.proofs.Pieces.{IsBegun}
use Rattle.rvm_journal.proofs.reader.next_line.Given as goal

-- these bytes were read of the line
abbrev pub invariant-loop : goal.invariant-loop
invariant-loop g l = IsBegun (g.I.Read.remaining l.fn.input) (g.I.Read.remaining l.input) l.line.items
