use Rattle.std.proofs.Common.{length}
use Rattle.rvm_board.proofs.rounds.+row_of_harts.Given as goal

-- proposed from what the function passes where it calls itself
abbrev pub decreases-row_of_harts : goal.decreases-row_of_harts
decreases-row_of_harts g l = length l.harts.now
