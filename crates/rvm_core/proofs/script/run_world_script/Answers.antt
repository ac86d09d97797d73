use Rattle.rvm_core.specs.Worlds.{world_of}
use Rattle.rvm_core.proofs.Running.{unread_script}
use Rattle.rvm_core.proofs.script.run_world_script.Goals as goal

pub returns-in-Err-clause-run : goal.returns-in-Err-clause-run
returns-in-Err-clause-run g c = unread_script (g.R.Read.remaining c.args.reader.now) (world_of c.args.world.now)
