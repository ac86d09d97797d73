use Rattle.std.proofs.Common.{◌-◌, ◌≤◌, vec_capacity, vec_len}
use Rattle.rvm_recorder.specs.Items.{replies_of_all}
use Rattle.rvm_recorder.proofs.Slices.{IsGoing}
use Rattle.rvm_recorder.proofs.recorded.Recorded.record_steps.Given as goal

abbrev pub invariant-loop-made : goal.invariant-loop-made
invariant-loop-made g l = record {
  going : IsGoing l.fn.self l.turn l.harts l.made (replies_of_all l.replies.items) l.self;
  few : l.made ≤ l.most;
  runs : vec_len l.replies ≤ l.made;
  room : l.most ≤ vec_capacity l.replies;
}

abbrev pub decreases-loop-made : goal.decreases-loop-made
decreases-loop-made g l = l.most - l.made
