use Rattle.std.proofs.Common.{◌≡◌, length}
use Rattle.rvm_board.specs.Rounds.{risen_up_to, share}
use Rattle.rvm_board.proofs.rounds.count_turns.Given as goal

-- the counters of the harts so far rose
abbrev pub invariant-loop-hart : goal.invariant-loop-hart
invariant-loop-hart g l =
    record {
      harts : l.harts ≡ risen_up_to (λ k. share (length l.fn.harts) l.first l.made k) l.hart l.fn.harts;
      bus : l.bus ≡ l.fn.bus;
    }
