use Rattle.rvm_replay.proofs.CountedTurns.{host_found}
use Rattle.rvm_replay.proofs.turns.host_of_turn.Goals as goal

pub returns-then-left-turns-clause-host : goal.returns-then-left-turns-clause-host
returns-then-left-turns-clause-host c =
    host_found c.args.order.now c.loop-piece.events c.next_piece.new.self c.args.turn c.loop-piece.left c.in-Some.piece
    c.turns_in-turns.result c.loop-piece.invariant c.in-Some.ensures c.turns_in-turns.ensures c.if-left-turns.true
