use Rattle.std.proofs.Common.{◌≡◌, ◌-◌, ◌<◌, ◌≤◌, length}
use Rattle.rvm_board.specs.WhileFull.{is_full, turns_while}
use Rattle.rvm_board.proofs.Turning.{Turning}
use Rattle.rvm_board.proofs.debugged.Debugged.turns_while_full.Given as goal

abbrev pub invariant-loop-left : goal.invariant-loop-left
invariant-loop-left g l =
    record {
      left : l.left ≤ l.count;
      harts : length l.self.guest.board.harts ≡ l.harts;
      hart : l.hart < l.harts;
      turns : Turning (turns_while is_full l.count l.first l.fn.self.guest) (turns_while is_full l.left l.hart l.self.guest) (l.count - l.left) l.fn.self.dirty l.self.dirty;
    }

abbrev pub decreases-loop-left : goal.decreases-loop-left
decreases-loop-left g l = l.left
