use Rattle.rvm_recorder.proofs.StepRuns.{both_in, joined_in}
use Rattle.rvm_recorder.proofs.item.push_rounds.Goals as goal

pub returns-in-Ok-clause-items : goal.returns-in-Ok-clause-items
returns-in-Ok-clause-items c =
    joined_in c.args.items.now.items c.pop.new.self.items c.push_reserved-in-Ok.new.self.items c.in-Some.last c.in-Ok.item _
    c.in-Some.ensures.items c.push_reserved-in-Ok.ensures.items c.in-Ok.ensures.joined

pub returns-in-Err-clause-items : goal.returns-in-Err-clause-items
returns-in-Err-clause-items c =
    both_in c.args.items.now.items c.pop.new.self.items c.push_reserved-in-Err.new.self.items c.push_reserved-in-Err-2.new.self.items
    c.in-Some.last c.in-Err.item c.of_rounds-in-Err.result _ c.in-Some.ensures.items c.push_reserved-in-Err.ensures.items
    c.in-Err.ensures.alone c.push_reserved-in-Err-2.ensures.items c.of_rounds-in-Err.ensures
