use Rattle.std.proofs.Common.{◌≤◌, ◌+◌, rules, arith, length, subst}
use Rattle.rvm_station.specs.Logs.{steps_from}
use Rattle.rvm_recorder.specs.History.{Recording}
use Rattle.rvm_journal.specs.Recorders.{Records}
use Rattle.rvm_replay.specs.Behind.{most_replayed, replayed_of}
use Rattle.rvm_journal.proofs.Recorders.{of_turns, steps_from_length}
use Rattle.rvm_replay.proofs.Behind.{behind_recorded, recorded_behind}
use Rattle.rvm_replay.proofs.replaying.ReplayedRecorder.turns.Goals as goal

pub invariant_of-self-then-left-eq0 : goal.invariant_of-self-then-left-eq0
invariant_of-self-then-left-eq0 g c =
    (c.in_ok-settle.ensures.behind c.self.inside.opening.value c.self.invariant.0, search rules)

pub invariant_of-self-2 : goal.invariant_of-self-2
invariant_of-self-2 g c =
    let a = c.args in
    let o = c.self.inside.opening.value in
    let made = c.in-Ok.made in
    let done = c.in_ok-settle.ensures in
    let es = steps_from a.turn a.harts made in
    let most = c.in-Ok.ensures.made.1 in
    let few : c.settle.new.count + length es ≤ most_replayed =
    omega (arith, most, c.min-most.ensures, steps_from_length a.turn a.harts made) in (
      behind_recorded o c.settle.new.past c.settle.new.count c.settle.new.recorded c.record_turns.new.self es
          (done.behind o c.self.invariant.0) done.reopened.empty
          (of_turns c.settle.new.recorded c.record_turns.new.self a.turn a.harts made c.in-Ok.ensures.turns) few,
      search rules,
    )

pub returns-clause-done : goal.returns-clause-done
returns-clause-done g c =
    let a = c.args in
    let r = c.self.inside in
    let made = c.in-Ok.made in
    let done = c.in_ok-settle.ensures in
    let es = steps_from a.turn a.harts made in
    subst (λ (s : Recording). Records s es (replayed_of r.opening.value c.settle.new.past c.record_turns.new.self)) c.self.view_is
    (recorded_behind r.opening.value r.past c.settle.new.past r.recorded c.settle.new.recorded c.record_turns.new.self es
    done.past done.reopened.empty
    (of_turns c.settle.new.recorded c.record_turns.new.self a.turn a.harts made c.in-Ok.ensures.turns))
