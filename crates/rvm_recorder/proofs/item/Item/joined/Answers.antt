use Rattle.std.proofs.Common.{◌++◌, ◌∙◌, ap, sym}
use Rattle.rvm_recorder.specs.Items.{entries_of, steps_in_turn}
use Rattle.rvm_recorder.proofs.StepRuns.{steps_joined}
use Rattle.rvm_recorder.proofs.item.Item.joined.Goals as goal

pub returns-clause-joined : goal.returns-clause-joined
returns-clause-joined c =
    let s = c.in-Steps.steps in
    let m = c.args.more in
    let n = c.in-Some.ensures in
    c.of_steps.ensures ∙ steps_joined s.turn s.harts s.count m.count c.in-Some.count m.turn m.harts n.0 n.1 n.2
    ∙ ap (λ xs. xs ++ steps_in_turn m.turn m.harts m.count) (sym (ap entries_of c.in-Steps.is) ∙ c.self.view_is)
