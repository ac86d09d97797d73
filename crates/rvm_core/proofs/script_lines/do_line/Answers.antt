use Rattle.rvm_core.specs.Worlds.{world_of}
use Rattle.rvm_core.specs.Runs.{standing}
use Rattle.rvm_core.proofs.Running.{empty_done}
use Rattle.rvm_core.proofs.script_lines.do_line.Goals as goal

pub returns-in-Empty-clause-done : goal.returns-in-Empty-clause-done
returns-in-Empty-clause-done g c = λ t shown.
    empty_done c.args.line (standing (world_of c.args.world.now) t) (g.W.Write.contents c.args.writer.now) c.in-Empty.is
