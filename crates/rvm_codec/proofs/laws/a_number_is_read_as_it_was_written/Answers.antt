use Rattle.rvm_codec.proofs.Numbers.{number_again}
use Rattle.rvm_codec.proofs.laws.a_number_is_read_as_it_was_written.Goals as goal

pub returns : goal.returns
returns c = λ size n rest lt. number_again size n rest lt
