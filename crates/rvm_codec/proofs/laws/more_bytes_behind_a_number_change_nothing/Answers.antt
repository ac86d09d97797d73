use Rattle.rvm_codec.proofs.Numbers.{number_more}
use Rattle.rvm_codec.proofs.laws.more_bytes_behind_a_number_change_nothing.Goals as goal

pub returns : goal.returns
returns c = λ size n bytes rest more e. number_more size bytes more n rest e
