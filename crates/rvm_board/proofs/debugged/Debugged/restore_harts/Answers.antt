use Rattle.rvm_board.proofs.Restoring.{goes_on, ends}
use Rattle.rvm_board.proofs.debugged.Debugged.restore_harts.Goals as goal

pub loop-i-preserved : goal.loop-i-preserved
loop-i-preserved g c =
    goes_on c.args.harts.now c.loop-i.i _ c.loop-i.self c.restore_hart.new.self c.args.self.now c.loop-i-test.true c.restore_hart.ensures c.loop-i.invariant

pub returns : goal.returns
returns g c = ends c.args.harts.now c.loop-i.i c.loop-i.self c.args.self.now c.loop-i-test.false c.loop-i.invariant
