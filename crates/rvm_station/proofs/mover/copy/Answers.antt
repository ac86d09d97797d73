use Rattle.rvm_station.proofs.AllOf.{both_of, copies_of}
use Rattle.rvm_station.specs.Movers.{IsOfCopier}
use Rattle.rvm_station.proofs.mover.copy.Goals as goal

pub returns-in-Refused-SeqSpent-clause-asked : goal.returns-in-Refused-SeqSpent-clause-asked
returns-in-Refused-SeqSpent-clause-asked g c =
    let to = c.args.plan.now.to in
    let policy = c.args.plan.now.policy in
    let old = g.A.Access.asked c.args.access.now in
    let mid = g.A.Access.asked c.copy.new.access in
    both_of (IsOfCopier to policy) g.L.Hosting.gave old mid (g.A.Access.asked c.give_up.new.access)
    (copies_of g.L.Hosting.gave to policy old mid c.copy.ensures.asked) (c.give_up.ensures.asked to policy)

pub returns-in-Refused-Busy-clause-asked : goal.returns-in-Refused-Busy-clause-asked
returns-in-Refused-Busy-clause-asked g c =
    let to = c.args.plan.now.to in
    let policy = c.args.plan.now.policy in
    let old = g.A.Access.asked c.args.access.now in
    let mid = g.A.Access.asked c.copy.new.access in
    both_of (IsOfCopier to policy) g.L.Hosting.gave old mid (g.A.Access.asked c.ask_again.new.access)
    (copies_of g.L.Hosting.gave to policy old mid c.copy.ensures.asked) (c.ask_again.ensures.asked to policy)
