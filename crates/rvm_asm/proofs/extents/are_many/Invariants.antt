use Rattle.std.proofs.Common.{◌≡◌, ◌+◌, ◌≤◌}
use Rattle.std.specs.Prelude.{None}
use Rattle.rvm_asm.proofs.Joined.{pieces_behind}
use Rattle.rvm_asm.proofs.extents.are_many.Given as goal

-- the pieces so far and those that are left are all
abbrev pub invariant-loop-address : goal.invariant-loop-address
invariant-loop-address l = record {
  few : l.count ≤ 16;
  sum : l.count + pieces_behind l.before l.address-iterator ≡ pieces_behind None l.extents.entries;
}
