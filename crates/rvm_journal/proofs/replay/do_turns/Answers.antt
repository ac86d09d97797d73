use Rattle.std.proofs.Common.{◌-◌, arith, length, refl}
use Rattle.rvm_station.specs.Logs.{steps_from}
use Rattle.rvm_journal.specs.Replaying.{LacksRoom}
use Rattle.rvm_journal.proofs.Replayed.{handed_on, lacks_room, more_turned, none_left, none_turned}
use Rattle.rvm_journal.proofs.replay.do_turns.Goals as goal

pub loop-left-init : goal.loop-left-init
loop-left-init g c = none_turned c.args.run.first c.args.run.harts c.args.run.count (g.R.Recorder.recording c.args.recorder.now)

pub loop-left-preserved : goal.loop-left-preserved
loop-left-preserved g c =
    more_turned c.args.run.first c.args.run.harts c.args.run.count c.loop-left.left c.loop-left.turn c.in_ok-made.made
    (c.loop-left.left - c.in_ok-made.made) c.turn_behind-turn.result (g.R.Recorder.recording c.args.recorder.now) (g.R.Recorder.recording c.loop-left.recorder)
    (g.R.Recorder.recording c.turns.new.self) c.loop-left.invariant c.in_ok-made.ensures.done c.in_ok-made.ensures.made.1 refl
    c.turn_behind-turn.ensures

pub returns-in_err-made-clause-room : goal.returns-in_err-made-clause-room
returns-in_err-made-clause-room g c =
    let run = c.args.run in
    let some = c.loop-left-test.true in
    handed_on (λ why. LacksRoom why (g.R.Recorder.recording c.args.recorder.now) (length (steps_from run.first run.harts run.count)))
    c.in_err-made.field-0.0 c.from_residual.result c.from_residual.ensures.1
    (none_left c.in_err-made.field-0.0 run.first run.harts run.count c.loop-left.left c.loop-left.turn (g.R.Recorder.recording c.args.recorder.now)
    (g.R.Recorder.recording c.loop-left.recorder) c.loop-left.invariant (omega (arith, some))
    (lacks_room c.in_err-made.field-0.0 (g.R.Recorder.recording c.loop-left.recorder) c.in_err-made.ensures.full))
