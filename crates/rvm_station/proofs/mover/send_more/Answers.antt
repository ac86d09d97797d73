use Rattle.rvm_station.proofs.mover.send_more.Goals as goal

pub returns-in-Stopped-clause-asked : goal.returns-in-Stopped-clause-asked
returns-in-Stopped-clause-asked g c = c.copy_last.ensures.asked c.args.plan.now.to c.args.plan.now.policy
