use Rattle.std.proofs.Common.{◌≤◌, vec_len}
use Rattle.rvm_recorder.proofs.journal.make_room.Given as goal

abbrev pub invariant-loop-room : goal.invariant-loop-room
invariant-loop-room l = record {
  all : l._room ≤ vec_len l.rooms;
  more : vec_len l.initial.rooms ≤ vec_len l.rooms;
}
