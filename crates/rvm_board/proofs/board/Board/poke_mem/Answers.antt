use Rattle.rvm_board.proofs.Boards.{poke_is_board}
use Rattle.rvm_board.proofs.board.Board.poke_mem.Goals as goal

pub invariant_of-self-2 : goal.invariant_of-self-2
invariant_of-self-2 g c =
    poke_is_board c.self.inside.harts.items c.args.address c.args.bytes.now c.self.inside.bus c.poke.new.self c.self.invariant c.in-Ok.ensures.poked
