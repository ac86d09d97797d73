use Rattle.rvm_command.proofs.Runs.{then_out}
use Rattle.rvm_command.proofs.run.drain_and_write.Goals as goal

pub returns-in_ok-write_to-clause-written : goal.returns-in_ok-write_to-clause-written
returns-in_ok-write_to-clause-written g c = then_out c.in_ok-drain_all.ensures.written c.in_ok-write_to.ensures.empty c.in_ok-write_to.ensures.written
