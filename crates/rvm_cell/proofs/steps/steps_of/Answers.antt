use Rattle.rvm_cell.proofs.Works.{last_got}
use Rattle.rvm_cell.proofs.steps.steps_of.Goals as goal

pub returns-clause-last : goal.returns-clause-last
returns-clause-last c =
    last_got c.args.receipts.now c.in-Some.last.now c.after_last.result c.in-Some.ensures.value c.after_last.ensures
