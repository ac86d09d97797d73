use Rattle.std.proofs.Common.{false, []}
use Rattle.rvm_cell.specs.Calls.{Made}
use Rattle.rvm_cell.proofs.pair.Pair.sent_by_guest.Given as goal

abbrev pub invariant-loop-try : goal.invariant-loop-try
invariant-loop-try g l = Made (l.fn.self.at_a, l.fn.self.at_b) (l.self.at_a, l.self.at_b) [] [] false
