use Rattle.std.proofs.Common.{rules}
use Rattle.rvm_replay.proofs.replaying.ReplayedRecorder.event.Goals as goal

pub invariant_of-self-then-count : goal.invariant_of-self-then-count
invariant_of-self-then-count g c =
    (c.in_ok-settle.ensures.behind c.self.inside.opening.value c.self.invariant.0, search rules)
