use Rattle.rvm_hart.proofs.Shape.{step_keeps}
use Rattle.rvm_hart.proofs.laws.a_step_keeps_the_shape.Goals as goal

pub returns : goal.returns
returns c = λ m. step_keeps m
