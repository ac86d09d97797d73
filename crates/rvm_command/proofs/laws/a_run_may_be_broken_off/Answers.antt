use Rattle.rvm_command.proofs.RunsJoined.{runs_join}
use Rattle.rvm_command.proofs.laws.a_run_may_be_broken_off.Goals as goal

pub returns : goal.returns
returns c = runs_join
