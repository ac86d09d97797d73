use Rattle.std.proofs.Common.{◌≡◌, ◌-◌, ◌<◌, ◌≤◌, [], false, length}
use Rattle.rvm_board.specs.declared.turns.Order.TheVariants.{Alone}
use Rattle.rvm_board.specs.Turns.{after_turns}
use Rattle.rvm_board.proofs.Turning.{Turning}
use Rattle.rvm_board.proofs.debugged.Debugged.turns_of_hart.Given as goal

abbrev pub invariant-loop-left : goal.invariant-loop-left
invariant-loop-left g l =
    record {
      left : l.left ≤ l.count;
      hart : l.hart < length l.self.guest.board.harts;
      breakpoints : l.watched ≡ false → l.self.guest.breakpoints ≡ [];
      turns : Turning (after_turns Alone l.count l.hart l.fn.self.guest) (after_turns Alone l.left l.hart l.self.guest) (l.count - l.left) l.fn.self.dirty l.self.dirty;
    }

abbrev pub decreases-loop-left : goal.decreases-loop-left
decreases-loop-left g l = l.left
