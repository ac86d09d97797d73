use Rattle.std.proofs.Common.{◌+◌, ◌≤◌, arith}
use Rattle.rvm_recorder.specs.Items.{steps_in_turn}
use Rattle.rvm_recorder.proofs.InRounds.{none_passed}
use Rattle.rvm_recorder.proofs.Spans.{skip_some}
use Rattle.rvm_recorder.proofs.left.left_of_steps.Goals as goal

pub returns-then-not-is_next-clause-there : goal.returns-then-not-is_next-clause-there
returns-then-not-is_next-clause-there c = λ n few rest.
    let s = c.args.steps.now in
    none_passed (steps_in_turn s.turn s.harts s.count) c.args.skipped c.args.turn c.args.harts n rest few

pub returns-clause-there : goal.returns-clause-there
returns-clause-there c = λ n few rest.
    let s = c.args.steps.now in
    let is = c.is_next.ensures c.if-not-is_next.false in
    let within = is.0 in
    let le : c.args.skipped + n ≤ s.count = omega (arith, within, few) in
    skip_some s.turn s.harts s.count c.args.skipped n c.args.turn c.args.harts rest le is.1 is.2
