use Rattle.rvm_command.proofs.TraceRegisters.{step_gives}
use Rattle.rvm_command.proofs.laws.a_line_shows_the_register_that_changes.Goals as goal

pub returns : goal.returns
returns c = λ m retired. step_gives m retired
