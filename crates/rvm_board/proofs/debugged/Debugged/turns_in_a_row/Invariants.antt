use Rattle.std.proofs.Common.{◌≡◌, ◌-◌, ◌≤◌, [], false, length}
use Rattle.std.specs.List.{list_any}
use Rattle.rvm_board.specs.declared.turns.Order.TheVariants.{RoundRobin}
use Rattle.rvm_board.specs.Turns.{after_turns}
use Rattle.rvm_board.proofs.Turning.{Turning}
use Rattle.rvm_board.proofs.debugged.Debugged.turns_in_a_row.Given as goal

-- no hart can stop
abbrev pub invariant-loop-hart : goal.invariant-loop-hart
invariant-loop-hart g l =
    record {
      first : l.first ≤ l.hart;
      hart : l.hart ≤ l.end;
      end : l.end ≤ length l.self.guest.board.harts;
      breakpoints : l.self.guest.breakpoints ≡ l.fn.self.guest.breakpoints;
      stopped : l.self.guest.stopped ≡ l.fn.self.guest.stopped;
      none : l.self.guest.breakpoints ≡ [];
      stand : list_any (λ s. s) l.self.guest.stopped ≡ false;
      turns : Turning (after_turns RoundRobin (l.end - l.first) l.first l.fn.self.guest) (after_turns RoundRobin (l.end - l.hart) l.hart l.self.guest) (l.hart - l.first) l.fn.self.dirty l.self.dirty;
    }

abbrev pub decreases-loop-hart : goal.decreases-loop-hart
decreases-loop-hart g l = l.end - l.hart
