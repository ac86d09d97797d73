use Rattle.std.proofs.Common.{◌∷◌, []}
use Rattle.rvm_recorder.specs.Items.{all_of, dry_entry, rounds_of}
use Rattle.rvm_recorder.proofs.StepRuns.{both_in}
use Rattle.rvm_recorder.proofs.InRounds.{dry_alone, rounded_in}
use Rattle.rvm_recorder.proofs.item.push_dry.Goals as goal

pub returns-in-Ok-clause-items : goal.returns-in-Ok-clause-items
returns-in-Ok-clause-items c =
    rounded_in c.args.items.now.items c.pop.new.self.items c.in-Some.last (rounds_of c.in-Ok.rounds) (dry_entry c.args.drain ∷ [])
    (all_of c.push_rounds.new.items.items) c.in-Some.ensures.items c.in-Ok.ensures.round c.push_rounds.ensures.items

pub returns-in-Err-clause-items : goal.returns-in-Err-clause-items
returns-in-Err-clause-items c =
    both_in c.args.items.now.items c.pop.new.self.items c.push_reserved-in-Err.new.self.items c.push_reserved-in-Err-2.new.self.items
    c.in-Some.last c.in-Err.item c.of_entry-in-Err.result _ c.in-Some.ensures.items c.push_reserved-in-Err.ensures.items
    c.in-Err.ensures.alone c.push_reserved-in-Err-2.ensures.items (dry_alone c.of_entry-in-Err.result c.of_dry-in-Err.result c.args.drain c.of_entry-in-Err.ensures c.of_dry-in-Err.ensures)
