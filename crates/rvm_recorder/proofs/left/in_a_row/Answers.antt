use Rattle.rvm_recorder.specs.Items.{entries_at}
use Rattle.rvm_recorder.proofs.InRounds.{none_passed}
use Rattle.rvm_recorder.proofs.left.in_a_row.Goals as goal

pub returns-in-Entry-clause-there : goal.returns-in-Entry-clause-there
returns-in-Entry-clause-there c = λ n few rest.
    none_passed (entries_at c.args.item) c.args.skipped c.args.turn c.args.harts n rest few
