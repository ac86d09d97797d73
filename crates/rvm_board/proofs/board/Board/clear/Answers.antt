use Rattle.rvm_board.proofs.Boards.{clear_is_board}
use Rattle.rvm_board.proofs.board.Board.clear.Goals as goal

pub invariant_of-self : goal.invariant_of-self
invariant_of-self g c =
    clear_is_board c.self.inside.harts.items c.self.inside.bus c.clear.new.self c.self.invariant c.clear.ensures
