use Rattle.std.proofs.Common.{◌≡◌, map}
use Rattle.std.specs.List.{range_with_len}
use Rattle.rvm_board.specs.Board.{new_hart}
use Rattle.rvm_board.proofs.board.new_harts.Given as goal

-- this many harts so far
abbrev pub invariant-loop-number : goal.invariant-loop-number
invariant-loop-number l = l.harts.items ≡ map (new_hart l.entry) (range_with_len 0 l.number)
