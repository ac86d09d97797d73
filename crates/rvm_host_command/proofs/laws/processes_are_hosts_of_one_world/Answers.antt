use Rattle.rvm_host_command.proofs.Law.{one_world}
use Rattle.rvm_host_command.proofs.laws.processes_are_hosts_of_one_world.Goals as goal

pub returns : goal.returns
returns c = one_world
