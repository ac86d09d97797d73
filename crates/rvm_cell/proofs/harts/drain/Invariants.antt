use Rattle.std.specs.Prelude.{[], false, ⊤}
use Rattle.rvm_cell.specs.Calls.{Written}
use Rattle.rvm_cell.proofs.harts.drain.Given as goal

abbrev pub invariant-loop-drain : goal.invariant-loop-drain
invariant-loop-drain g l =
    Written (l.fn.pair.at_a, l.fn.pair.at_b) (l.pair.at_a, l.pair.at_b)
    (g.W.Write.contents l.fn.writer) (g.W.Write.contents l.writer) ⊤ [] false
