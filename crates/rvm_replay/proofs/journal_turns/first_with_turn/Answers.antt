use Rattle.std.proofs.Common.{◌≡◌, arith, get_or, sym}
use Rattle.rvm_replay.proofs.JournalTurns.{more_searched, passed_within}
use Rattle.rvm_replay.proofs.journal_turns.first_with_turn.Goals as goal

pub overflow_add-count : goal.overflow_add-count
overflow_add-count c =
    let items = c.args.items.now in
    let x = c.item-item.result in
    let is : get_or items c.loop-item.item-index x ≡ x = sym c.item-item.is in
    let within = passed_within items c.loop-item.item-index c.args.turn c.loop-item.left c.loop-item.count x c.in-Err.passed
    c.loop-item.invariant c.loop-item-test.true is c.in-Err.ensures.passed in
    let short = c.requires.short in
    omega (arith, within, short)

pub loop-item-preserved : goal.loop-item-preserved
loop-item-preserved c =
    let items = c.args.items.now in
    let x = c.item-item.result in
    let is : get_or items c.loop-item.item-index x ≡ x = sym c.item-item.is in
    more_searched items c.loop-item.item-index c.args.turn c.loop-item.left c.loop-item.count x c.in-Err.passed
    c.loop-item.invariant c.loop-item-test.true is c.in-Err.ensures.passed
