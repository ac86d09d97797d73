use Rattle.std.proofs.Common.{◌≡◌, ◌≤◌, ◌*◌, take}
use Rattle.std.specs.Prelude.{sum}
use Rattle.rvm_command.proofs.coverage.sum.Given as goal

-- the sum of the numbers so far, each of which is below 2 ^ 32
abbrev pub invariant-loop-number : goal.invariant-loop-number
invariant-loop-number l = record {
  few : l.total ≤ l.number-index * 4294967295;
  is : l.total ≡ sum (take l.number-index l.numbers);
}
