use Rattle.std.proofs.Common.{◌≡◌, ◌-◌, ◌≤◌, length, drop}
use Rattle.std.specs.BTreeMap.{get}
use Rattle.std.specs.Ordering.{nat_cmp}
use Rattle.rvm_recorder.specs.Runs.{all_of}
use Rattle.rvm_recorder.specs.Items.{all_of as entries_of_all}
use Rattle.rvm_recorder.proofs.Checks.{Checked}
use Rattle.rvm_recorder.proofs.closing.first_fault.Given as goal

abbrev pub invariant-loop-k : goal.invariant-loop-k
invariant-loop-k l = record {
  k : l.k ≤ length l.receipts;
  so : Checked (entries_of_all l.items) (all_of l.receipts) (get nat_cmp l.lasts) l.place;
  left : l.left ≡ drop l.place (entries_of_all l.items);
  behind : drop l.place (all_of l.receipts) ≡ all_of (drop l.k l.receipts);
  inside : l.place ≤ length (entries_of_all l.items);
}

abbrev pub decreases-loop-k : goal.decreases-loop-k
decreases-loop-k l = length l.receipts - l.k
