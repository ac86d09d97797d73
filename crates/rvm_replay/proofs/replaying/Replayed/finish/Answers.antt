use Rattle.std.proofs.Common.{◌∙◌, ap}
use Rattle.rvm_protocol.specs.Modes.{guest_in}
use Rattle.rvm_recorder.specs.History.{Recording, host_now}
use Rattle.rvm_recorder.specs.Replay.{LawHost}
use Rattle.rvm_replay.proofs.Behind.{same_host}
use Rattle.rvm_replay.proofs.replaying.Replayed.finish.Goals as goal

pub returns-in-Some-clause-guest : goal.returns-in-Some-clause-guest
returns-in-Some-clause-guest g c =
    let r = c.self.inside in
    let done = c.in_ok-settle.ensures in
    c.into_guest.ensures
    ∙ ap (λ (h : LawHost). guest_in h.mode)
    (same_host r.opening.value r.past c.settle.new.past c.settle.new.count r.recorded c.settle.new.recorded
    (done.behind r.opening.value c.self.invariant.0) done.reopened.empty done.past
    ∙ ap (λ (s : Recording). host_now s) c.self.view_is)
