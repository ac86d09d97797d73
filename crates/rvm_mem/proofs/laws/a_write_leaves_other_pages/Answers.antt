use Rattle.rvm_mem.proofs.Others.{poke_others}
use Rattle.rvm_mem.proofs.laws.a_write_leaves_other_pages.Goals as goal

pub returns : goal.returns
returns c = λ at new bytes inside. poke_others at new bytes inside
