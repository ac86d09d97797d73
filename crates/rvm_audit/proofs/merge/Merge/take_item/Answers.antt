use Rattle.std.proofs.Common.{refl}
use Rattle.rvm_audit.proofs.Taken.{rounds_item, steps_item}
use Rattle.rvm_audit.proofs.merge.Merge.take_item.Goals as goal

pub returns-in_ok-push_steps-in-Steps : goal.returns-in_ok-push_steps-in-Steps
returns-in_ok-push_steps-in-Steps c =
    steps_item c.args.version c.args.count c.args.host c.args.item c.in-Steps.steps c.in-Steps.steps.count c.args.self.now _
    c.in-Steps.is refl (record { events = c.in_ok-push_steps-in-Steps.ensures; places = refl; count = refl })

pub returns-in_ok-push_rounds-in-Rounds : goal.returns-in_ok-push_rounds-in-Rounds
returns-in_ok-push_rounds-in-Rounds c =
    rounds_item c.args.version c.args.count c.args.host c.args.item c.in-Rounds.rounds c.len.result c.args.self.now _
    c.in-Rounds.is c.len.ensures
    (record { events = c.in_ok-push_rounds-in-Rounds.ensures; places = refl; count = refl })
