use Rattle.rvm_audit.proofs.Law.{interleaved_run}
use Rattle.rvm_audit.proofs.laws.interleavings_are_runs_of_one_world.Goals as goal

pub returns : goal.returns
returns c = interleaved_run
