use Rattle.std.proofs.Common.{length}
use Rattle.rvm_replay.proofs.CountedTurns.{Passing}
use Rattle.rvm_replay.proofs.turns.host_of_turn.Given as goal

abbrev pub invariant-loop-piece : goal.invariant-loop-piece
invariant-loop-piece l = Passing l.order l.events l.turn l.left

abbrev pub decreases-loop-piece : goal.decreases-loop-piece
decreases-loop-piece l = length l.events
