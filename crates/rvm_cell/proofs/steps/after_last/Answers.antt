use Rattle.rvm_cell.proofs.Works.{others_go_on}
use Rattle.rvm_cell.proofs.steps.after_last.Goals as goal

pub returns-in_default : goal.returns-in_default
returns-in_default c = others_go_on c.args.item.now c.in_default.not-One
