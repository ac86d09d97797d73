use Rattle.std.proofs.Common.{arith}
use Rattle.rvm_hart.proofs.Reserved.{clear_keeps}
use Rattle.rvm_board.proofs.Boards.{made_is_board}
use Rattle.rvm_board.proofs.board.Board.new.Goals as goal

pub invariant_of-result : goal.invariant_of-result
invariant_of-result g c =
    made_is_board c.args.harts c.args.entry _ c.new-2.result _ _ _ _ (omega arith) (omega arith) (omega arith)
    c.in-Ok.ensures c.in-Ok-new.ensures c.new-reservations.ensures c.new-2.ensures

pub new-requires-2 : goal.new-requires-2
new-requires-2 g c = clear_keeps _ c.args.harts c.new-reservations.result c.new-reservations.ensures
