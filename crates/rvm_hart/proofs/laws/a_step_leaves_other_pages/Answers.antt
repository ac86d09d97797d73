use Rattle.rvm_hart.proofs.Pages.{step_others}
use Rattle.rvm_hart.proofs.laws.a_step_leaves_other_pages.Goals as goal

pub returns : goal.returns
returns c = λ m. step_others m
