use Rattle.std.proofs.Common.{◌≡◌, ◌+◌, ◌<◌, ℕ, vec_len, vec_capacity, Some}
use Rattle.std.specs.Prelude.{slice_get, ◌≤◌}
use Rattle.rvm_recorder.specs.Seats.{seat_of}
use Rattle.rvm_recorder.proofs.shared.cut.Given as goal

abbrev pub invariant-loop-id : goal.invariant-loop-id
invariant-loop-id g l = record {
  parts : l.all.parts + l.id ≡ l.seats;
  none : l.all.amount ≡ 0;
  len : vec_len l.list ≡ l.id;
  room : l.seats ≤ vec_capacity l.list;
  fresh : (k : ℕ) → k < l.id → slice_get l.list.items k ≡ Some (seat_of k 0);
}
