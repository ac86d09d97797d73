use Rattle.std.proofs.Common.{arith}
use Rattle.rvm_command.proofs.Showing.{harts_all, harts_more}
use Rattle.rvm_command.proofs.extended_answers.write_harts.Goals as goal

pub loop-hart-preserved : goal.loop-hart-preserved
loop-hart-preserved g c =
    harts_more c.args.harts.now c.loop-hart.hart _ _ _ _ (omega arith) c.loop-hart.invariant c.in_ok-write_hart.ensures

pub returns : goal.returns
returns g c = harts_all c.args.harts.now c.loop-hart.hart _ _ (omega arith) c.loop-hart.invariant
