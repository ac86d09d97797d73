use Rattle.std.proofs.Common.{subst}
use Rattle.rvm_recorder.specs.History.{Recording}
use Rattle.rvm_recorder.specs.Replay.{IsReplay}
use Rattle.rvm_replay.proofs.Behind.{is_replay_behind}
use Rattle.rvm_replay.proofs.replaying.ReplayedRecorder.know_answers.Goals as goal

pub returns : goal.returns
returns g c =
    let r = c.self.inside in
    let behind = c.self.invariant.0 in
    subst (λ (s : Recording). IsReplay s.journal.opening s.journal.entries) c.self.view_is
    (is_replay_behind r.opening.value r.past r.recorded.journal.opening behind.leads r.recorded.journal.entries behind.replay
    c.know_answers.ensures)
