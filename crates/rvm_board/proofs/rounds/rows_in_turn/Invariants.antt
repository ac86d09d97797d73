use Rattle.rvm_board.specs.Rounds.{Striding, board_of}
use Rattle.rvm_board.proofs.rounds.rows_in_turn.Given as goal

-- turns whose counters did not rise yet
abbrev pub invariant-loop-left : goal.invariant-loop-left
invariant-loop-left g l = Striding l.count l.first (board_of l.fn.harts l.fn.bus) l.left 0 (board_of l.harts l.bus)

abbrev pub decreases-loop-left : goal.decreases-loop-left
decreases-loop-left g l = l.left
