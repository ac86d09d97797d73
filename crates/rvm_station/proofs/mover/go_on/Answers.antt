use Rattle.rvm_station.proofs.mover.go_on.Goals as goal

pub returns-then-is_silent-clause-asked : goal.returns-then-is_silent-clause-asked
returns-then-is_silent-clause-asked g c = c.give_up.ensures.asked c.args.plan.now.to c.args.plan.now.policy

pub returns-in-Given-clause-asked : goal.returns-in-Given-clause-asked
returns-in-Given-clause-asked g c = c.ask_again.ensures.asked c.args.plan.now.to c.args.plan.now.policy
