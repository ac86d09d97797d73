use Rattle.std.proofs.Common.{◌≡◌, ◌+◌, vec_len}
use Rattle.std.specs.Prelude.{sum_by}
use Rattle.rvm_recorder.proofs.closing.collect.Given as goal

abbrev pub invariant-loop-seat : goal.invariant-loop-seat
invariant-loop-seat g l = record {
  parts : l.all.parts + vec_len l.seats ≡ vec_len l.fn.seats;
  amount : l.all.amount + sum_by (λ s. s.count) l.seats.items ≡ sum_by (λ s. s.count) l.fn.seats.items;
  total : l.book.total ≡ l.fn.book.total;
}

abbrev pub decreases-loop-seat : goal.decreases-loop-seat
decreases-loop-seat g l = goal.left-loop-seat g l
