use Rattle.rvm_hart.proofs.Registers.{step_registers}
use Rattle.rvm_hart.proofs.laws.a_step_keeps_the_registers.Goals as goal

pub returns : goal.returns
returns c = λ m are. step_registers m are
