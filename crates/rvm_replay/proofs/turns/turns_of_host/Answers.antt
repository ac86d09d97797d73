use Rattle.std.proofs.Common.{◌-◌, subst, sym}
use Rattle.rvm_replay.proofs.CountedTurns.{Counting, others_counted, own_counted}
use Rattle.rvm_replay.proofs.turns.turns_of_host.Goals as goal
use Rattle.rvm_replay.proofs.turns.turns_of_host.Goals.{else-host-some, then-host-some}

pub loop-piece-preserved : goal.loop-piece-preserved
loop-piece-preserved c =
    let order = c.args.order.now in
    let turns = c.args.turns in
    let n = c.loop-piece.left in
    let x = c.args.host in
    let count = c.loop-piece.count in
    let first = c.min-first.result in
    elim c.if-host-some.branch [
      | then-host-some w ↦ subst (Counting order c.next_piece.new.self turns (n - first) x) (sym w.count-is)
          (own_counted order c.loop-piece.events c.next_piece.new.self turns n x count first c.in-Some.piece c.turns_in-some.result
          c.loop-piece.invariant c.in-Some.ensures c.turns_in-some.ensures c.min-first.ensures w.if-host-some.true)
      | else-host-some w ↦ subst (Counting order c.next_piece.new.self turns (n - first) x) (sym w.count-is)
          (others_counted order c.loop-piece.events c.next_piece.new.self turns n x count first c.in-Some.piece c.turns_in-some.result
          c.loop-piece.invariant c.in-Some.ensures c.turns_in-some.ensures c.min-first.ensures w.if-host-some.false)
    ]
