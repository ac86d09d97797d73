use Rattle.rvm_state.proofs.Reading.{only}
use Rattle.rvm_state.proofs.laws.no_two_guests_have_one_spelling.Goals as goal

pub returns : goal.returns
returns c = λ bytes ram g h of_g of_h. only bytes ram g h of_g of_h
