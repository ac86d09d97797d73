use Rattle.std.proofs.Common.{◌≡◌, ◌+◌, ◌-◌, ◌%◌, ◌<◌, ◌≤◌, [], false, length}
use Rattle.std.specs.List.{list_any}
use Rattle.rvm_board.specs.Retiring.{Retire}
use Rattle.rvm_board.proofs.debugged.Debugged.retire_in_turn.Given as goal

-- no hart can stop
abbrev pub invariant-loop-left : goal.invariant-loop-left
invariant-loop-left g l =
    record {
      left : l.left ≤ l.count;
      harts : length l.self.guest.board.harts ≡ l.harts;
      same : l.harts ≡ length l.fn.self.guest.board.harts;
      few : l.harts ≤ 8;
      hart : l.hart < l.harts;
      turn : l.hart ≡ (l.turn + (l.count - l.left)) % l.harts;
      breakpoints : l.self.guest.breakpoints ≡ [];
      stopped : list_any (λ s. s) l.self.guest.stopped ≡ false;
      are : Retire l.harts (l.count - l.left) l.turn l.fn.self l.self;
    }

abbrev pub decreases-loop-left : goal.decreases-loop-left
decreases-loop-left g l = l.left
