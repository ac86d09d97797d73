use Rattle.std.proofs.Common.{◌≤◌, ◌-◌}
use Rattle.rvm_mem.proofs.Ranges.{MarkedTo}
use Rattle.rvm_mem.proofs.page_flags.PageFlags.insert_range.Given as goal

-- the pages of the bytes so far are marked
abbrev pub invariant-loop-done : goal.invariant-loop-done
invariant-loop-done l =
    record {
      marked : MarkedTo l.at l.done l.fn.self l.self;
      within : l.done ≤ l.count;
    }

abbrev pub decreases-loop-done : goal.decreases-loop-done
decreases-loop-done l = l.count - l.done
