use Rattle.rvm_board.proofs.Made.{FirstParts}
use Rattle.rvm_board.proofs.debugged.Debugged.hart_parts.Given as goal

-- those of the first harts
abbrev pub invariant-loop-hart : goal.invariant-loop-hart
invariant-loop-hart g l = FirstParts l.hart l.parts.items l.self.guest
