use Rattle.rvm_recorder.specs.Runs.{all_of}
use Rattle.rvm_move.proofs.Told.{all_of_three}
use Rattle.rvm_move.proofs.moving.close_both.Goals as goal

pub returns-clause-told_a : goal.returns-clause-told_a
returns-clause-told_a g c closed =
    let told = c.close_host.ensures.told closed in
    let third = c.add-3.ensures told.0 in
    let second = c.add-2.ensures third.0 in
    let first = c.add.ensures second.0 in
    all_of_three c.close_host.result.recorded.journal.entries (all_of c.new-from_a.result.receipts.items) (all_of c.args.turned.receipts.0.items)
    _ _ _ _ _ c.new-from_a.ensures first.1 second.1 third.1 told.1
