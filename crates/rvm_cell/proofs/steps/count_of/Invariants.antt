use Rattle.std.proofs.Common.{◌≡◌, ◌+◌, ◌-◌, ◌≤◌, length, drop}
use Rattle.rvm_recorder.specs.Runs.{all_of}
use Rattle.rvm_cell.proofs.steps.count_of.Given as goal

abbrev pub invariant-loop-k : goal.invariant-loop-k
invariant-loop-k l = record {
  k : l.k ≤ length l.receipts;
  left : l.count + length (all_of (drop l.k l.receipts)) ≡ length (all_of l.receipts);
}

abbrev pub decreases-loop-k : goal.decreases-loop-k
decreases-loop-k l = length l.receipts - l.k
