use Rattle.std.proofs.Common.{length}
use Rattle.rvm_replay.proofs.CountedTurns.{Counting}
use Rattle.rvm_replay.proofs.turns.turns_of_host.Given as goal

abbrev pub invariant-loop-piece : goal.invariant-loop-piece
invariant-loop-piece l = Counting l.order l.events l.turns l.left l.host l.count

abbrev pub decreases-loop-piece : goal.decreases-loop-piece
decreases-loop-piece l = length l.events
