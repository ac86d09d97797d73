use Rattle.rvm_recorder.proofs.InRounds.{rounds_joined}
use Rattle.rvm_recorder.proofs.item.joined.Goals as goal

pub returns : goal.returns
returns c =
    let a = c.args.rounds in
    let b = c.args.more in
    let on = c.in_ok-count.ensures.goes_on in
    rounds_joined a.turn a.harts a.steps a.drain a.count b.count c.in_ok-count.count b.turn b.harts b.steps b.drain
    on.count on.turn on.harts on.steps on.drain
