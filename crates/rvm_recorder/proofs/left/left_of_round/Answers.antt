use Rattle.std.proofs.Common.{◌∙◌, arith}
use Rattle.rvm_recorder.specs.Items.{rounds_of}
use Rattle.rvm_recorder.proofs.InRounds.{none_passed, passed, row_fits, row_inside}
use Rattle.rvm_recorder.proofs.left.left_of_round.Goals as goal

pub returns-clause-few : goal.returns-clause-few
returns-clause-few c =
    let r = c.args.rounds.now in
    let is = c.in-Some.ensures in
    let few = r.few in
    let count = is.count in
    let inside = row_inside r.harts r.steps r.drain r.count c.args.skipped is.inside in
    omega (arith, few, count, inside)

pub returns-in_default-clause-there : goal.returns-in_default-clause-there
returns-in_default-clause-there c = λ n few rest.
    none_passed (rounds_of c.args.rounds.now) c.args.skipped c.args.turn c.args.harts n rest few

pub returns-then-turn-row-clause-there : goal.returns-then-turn-row-clause-there
returns-then-turn-row-clause-there c = λ n few rest.
    none_passed (rounds_of c.args.rounds.now) c.args.skipped c.args.turn c.args.harts n rest few

pub returns-clause-there : goal.returns-clause-there
returns-clause-there c = λ n few rest.
    let r = c.args.rounds.now in
    let is = c.in-Some.ensures in
    let k = c.args.skipped in
    passed r.harts r.steps r.drain r.turn r.count k n c.args.turn c.args.harts rest is.inside
    (row_fits r.harts r.steps r.drain k n c.in-Some.row.count is.count few) (c.if-turn-row.false ∙ is.turn) (c.if-harts-row.false ∙ is.harts)
