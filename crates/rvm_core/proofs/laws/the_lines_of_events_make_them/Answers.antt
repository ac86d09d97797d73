use Rattle.rvm_core.proofs.Scripts.{lines_make}
use Rattle.rvm_core.proofs.laws.the_lines_of_events_make_them.Goals as goal

pub returns : goal.returns
returns c = λ es. lines_make es 1
