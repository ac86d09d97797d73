use Rattle.std.proofs.Common.{IfSome, subst}
use Rattle.rvm_hart.specs.Step.{execute}
use Rattle.rvm_hart.specs.Straight.{Goes, based}
use Rattle.rvm_hart.proofs.Running.{goes_executes}
use Rattle.rvm_hart.proofs.hart.Hart.execute_straight.Goals as goal

-- a step on the straight path
pub returns-in-Some-straight : goal.returns-in-Some-straight
returns-in-Some-straight g c =
    goes_executes (based c.offset-at.result) c.args.self.now c.args.bus.now (based c.in-Some-straight.next) c.straight.new.self c.straight.new.bus c.end_straight.new.self c.end_straight.new.bus c.end_straight.result
    c.offset-at.ensures.address
    (subst (λ o. IfSome o (λ n. Goes execute (based c.offset-at.result) c.args.self.now c.args.bus.now (based n) c.straight.new.self c.straight.new.bus)) c.in-Some-straight.is c.straight.ensures.goes)
    c.end_straight.ensures.machine c.end_straight.ensures.dirty c.end_straight.ensures.answer
