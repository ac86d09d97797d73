use Rattle.std.proofs.Common.{refl}
use Rattle.rvm_replay.proofs.TurnEnds.{few_turns, few_turns_untold}
use Rattle.rvm_replay.proofs.UntoldReplays.{on_error}
use Rattle.rvm_replay.proofs.turn_session.look_in.Goals as goal

pub returns-in-Ok-clause-looked : goal.returns-in-Ok-clause-looked
returns-in-Ok-clause-looked g c image are = (
  record {
    all = c.args.all.now;
    events = c.args.order.now;
    replayed = are;
    merge = c.requires.merge;
    place = c.in-Ok.ensures.place;
  },
  refl,
)

pub returns-in_ok-tell_few-in-Err-clause-looked : goal.returns-in_ok-tell_few-in-Err-clause-looked
returns-in_ok-tell_few-in-Err-clause-looked g c image are out =
    let few = c.in-Err.ensures.few in
    few_turns c.args.files.now image c.args.all.now are c.args.turn c.args.order.now c.requires.merge c.in-Err.count
    few.0 few.1 out (g.E.Write.contents c.args.errors.now)
    (g.E.Write.contents c.tell_few.new.errors) c.in_ok-tell_few-in-Err.ensures

pub returns-in_err-tell_few-in-Err-clause-untold : goal.returns-in_err-tell_few-in-Err-clause-untold
returns-in_err-tell_few-in-Err-clause-untold g c image are =
    let few = c.in-Err.ensures.few in
    on_error c.from_residual.result _
    (few_turns_untold c.args.files.now image c.args.all.now are c.args.turn c.args.order.now c.requires.merge c.in-Err.count
    few.0 few.1)
