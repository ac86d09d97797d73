use Rattle.std.proofs.Common.{◌++◌, ◌∙◌, ap, sym}
use Rattle.rvm_recorder.specs.Items.{entries_of, rounds_of}
use Rattle.rvm_recorder.proofs.item.Item.joined_rounds.Goals as goal

pub returns-in-Some-clause-joined : goal.returns-in-Some-clause-joined
returns-in-Some-clause-joined c =
    c.of_rounds.ensures ∙ c.in-Some.ensures
    ∙ ap (λ xs. xs ++ rounds_of c.args.more) (sym (ap entries_of c.in-Rounds.is) ∙ c.self.view_is)
