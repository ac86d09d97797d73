use Rattle.std.proofs.Common.{◌≡◌, drop, false, replicate}
use Rattle.rvm_board.specs.Marks.{with_marks}
use Rattle.rvm_board.proofs.breakpoints.marks_for.Given as goal

-- the marks so far, with those of the addresses that are left, are all
abbrev pub invariant-loop-address : goal.invariant-loop-address
invariant-loop-address l =
    with_marks (drop l.address-index l.addresses) l.marks ≡ with_marks l.addresses (replicate 4096 false)
