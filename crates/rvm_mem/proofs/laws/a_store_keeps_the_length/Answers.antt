use Rattle.rvm_mem.proofs.Lengths.{length-store}
use Rattle.rvm_mem.proofs.laws.a_store_keeps_the_length.Goals as goal

pub returns : goal.returns
returns c = λ n at value bytes inside. length-store n at value bytes inside
