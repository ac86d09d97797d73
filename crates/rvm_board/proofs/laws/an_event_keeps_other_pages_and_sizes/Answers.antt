use Rattle.rvm_board.proofs.Answering.{answered_keeps}
use Rattle.rvm_board.proofs.laws.an_event_keeps_other_pages_and_sizes.Goals as goal

pub returns : goal.returns
returns c = λ e g. answered_keeps e g
