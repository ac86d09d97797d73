use Rattle.rvm_station.proofs.AllOf.{both_of, one_of}
use Rattle.rvm_message.specs.declared.event.Command.TheVariants.{Abort}
use Rattle.rvm_message.specs.declared.event.HostEvent.TheVariants.{Do}
use Rattle.rvm_station.specs.Movers.{IsOfCopier}
use Rattle.rvm_station.proofs.mover.begin_anew.Goals as goal

pub returns-in-Ok-clause-asked : goal.returns-in-Ok-clause-asked
returns-in-Ok-clause-asked g c =
    let kind = IsOfCopier c.args.plan.now.to c.args.plan.now.policy in
    let old = g.A.Access.asked c.args.access.now in
    let mid = g.A.Access.asked c.obey.new.access in
    both_of kind g.L.Hosting.gave old mid (g.A.Access.asked c.begin.new.access)
    (one_of kind g.L.Hosting.gave old mid (Do Abort) _ tt c.in-Ok-Aborted.ensures.asked) c.begin.ensures.asked

pub returns-in-Err-clause-asked : goal.returns-in-Err-clause-asked
returns-in-Err-clause-asked g c =
    let kind = IsOfCopier c.args.plan.now.to c.args.plan.now.policy in
    let old = g.A.Access.asked c.args.access.now in
    let mid = g.A.Access.asked c.obey.new.access in
    both_of kind g.L.Hosting.gave old mid (g.A.Access.asked c.begin.new.access)
    (one_of kind g.L.Hosting.gave old mid (Do Abort) _ tt c.in-Ok-Aborted.ensures.asked) c.begin.ensures.asked
