use Rattle.std.proofs.Common.{◌∷◌, ◌++◌, [], ◌∙◌, ap, sym}
use Rattle.rvm_recorder.specs.Items.{dry_entry, entries_of}
use Rattle.rvm_recorder.proofs.InRounds.{one_round}
use Rattle.rvm_recorder.proofs.item.Item.with_drain.Goals as goal

pub returns-clause-round : goal.returns-clause-round
returns-clause-round c =
    let s = c.in-Steps.steps in
    one_round s.turn s.harts s.count c.args.drain
    ∙ ap (λ xs. xs ++ dry_entry c.args.drain ∷ []) (sym (ap entries_of c.in-Steps.is) ∙ c.self.view_is)
