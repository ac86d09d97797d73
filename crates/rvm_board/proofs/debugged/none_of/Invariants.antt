use Rattle.std.proofs.Common.{◌≡◌, false, replicate}
use Rattle.rvm_board.proofs.debugged.none_of.Given as goal

-- this many so far
abbrev pub invariant-loop : goal.invariant-loop
invariant-loop l = l.stopped.items ≡ replicate l.counter false
