use Rattle.std.proofs.Common.{◌≡◌, ◌-◌, ◌≤◌, [], false, length}
use Rattle.std.specs.List.{list_any}
use Rattle.rvm_board.specs.Retiring.{Retire}
use Rattle.rvm_board.proofs.debugged.Debugged.retire_hart_0.Given as goal

-- no hart can stop
abbrev pub invariant-loop-left : goal.invariant-loop-left
invariant-loop-left g l =
    record {
      left : l.left ≤ l.count;
      harts : length l.self.guest.board.harts ≡ 1;
      breakpoints : l.self.guest.breakpoints ≡ [];
      stopped : list_any (λ s. s) l.self.guest.stopped ≡ false;
      are : Retire 1 (l.count - l.left) l.turn l.fn.self l.self;
    }

abbrev pub decreases-loop-left : goal.decreases-loop-left
decreases-loop-left g l = l.left
