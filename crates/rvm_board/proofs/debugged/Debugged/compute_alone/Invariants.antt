use Rattle.std.proofs.Common.{◌≡◌, ◌-◌, ◌≤◌, [], false, length}
use Rattle.std.specs.List.{list_any}
use Rattle.rvm_board.specs.Computing.{Compute}
use Rattle.rvm_board.proofs.debugged.Debugged.compute_alone.Given as goal

-- the hart cannot stop, and all turns so far computed
abbrev pub invariant-loop-left : goal.invariant-loop-left
invariant-loop-left g l =
    record {
      left : l.left ≤ l.count;
      harts : length l.self.guest.board.harts ≡ 1;
      breakpoints : l.self.guest.breakpoints ≡ [];
      stopped : list_any (λ s. s) l.self.guest.stopped ≡ false;
      are : Compute 1 (l.count - l.left) 0 l.fn.self l.self;
    }

abbrev pub decreases-loop-left : goal.decreases-loop-left
decreases-loop-left g l = l.left
