use Rattle.rvm_station.proofs.AllOf.{both_of}
use Rattle.rvm_station.specs.Movers.{IsOfCopier}
use Rattle.rvm_station.proofs.mover.move_away.Goals as goal

pub returns-in-Some-go_on-clause-asked : goal.returns-in-Some-go_on-clause-asked
returns-in-Some-go_on-clause-asked g c =
    both_of (IsOfCopier c.args.plan.now.to c.args.plan.now.policy) g.L.Hosting.gave (g.A.Access.asked c.args.access.now)
    (g.A.Access.asked c.loop-step.access) (g.A.Access.asked c.go_on.new.access) c.loop-step.invariant c.go_on.ensures.asked

pub loop-step-preserved : goal.loop-step-preserved
loop-step-preserved g c =
    both_of (IsOfCopier c.args.plan.now.to c.args.plan.now.policy) g.L.Hosting.gave (g.A.Access.asked c.args.access.now)
    (g.A.Access.asked c.loop-step.access) (g.A.Access.asked c.go_on.new.access) c.loop-step.invariant c.go_on.ensures.asked
