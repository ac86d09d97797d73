use Rattle.rvm_mem.proofs.Others.{store_others}
use Rattle.rvm_mem.proofs.laws.a_store_leaves_other_pages.Goals as goal

pub returns : goal.returns
returns c = λ n at value bytes inside room. store_others n at value bytes inside room
