use Rattle.rvm_command.proofs.FramesPut.{opening_put}
use Rattle.rvm_command.proofs.save.put_opening.Goals as goal

pub returns : goal.returns
returns g c = opening_put _ _ _ _ _ c.put-2.result c.in_ok-put.ensures c.put-2.ensures
