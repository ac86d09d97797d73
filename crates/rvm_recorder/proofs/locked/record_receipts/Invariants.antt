use Rattle.std.proofs.Common.{◌-◌, ◌≤◌, vec_capacity, vec_len}
use Rattle.rvm_recorder.specs.Runs.{all_of}
use Rattle.rvm_recorder.specs.Seats.{seat_of}
use Rattle.rvm_recorder.proofs.Slicing.{AreSoFar}
use Rattle.rvm_recorder.proofs.locked.record_receipts.Given as goal

abbrev pub invariant-loop-made : goal.invariant-loop-made
invariant-loop-made g l = record {
  so_far : AreSoFar l.fn.recorded (seat_of l.seat l.count) l.turn l.harts l.made (all_of l.receipts.items) l.recorded;
  few : l.made ≤ l.most;
  len : vec_len l.receipts ≤ l.made;
  room : l.most ≤ vec_capacity l.receipts;
}

abbrev pub decreases-loop-made : goal.decreases-loop-made
decreases-loop-made g l = l.most - l.made
