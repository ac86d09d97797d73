use Rattle.std.proofs.Common.{◌≡◌, ◌∙◌, ap, get_or, sym}
use Rattle.rvm_replay.specs.Counts.{plus}
use Rattle.rvm_replay.proofs.Counting.{items_more}
use Rattle.rvm_replay.proofs.counts.Counts.of.Goals as goal

pub loop-item-preserved : goal.loop-item-preserved
loop-item-preserved c =
    let items = c.args.items.now in
    let i = c.loop-item.item-index in
    let x = c.item-item.result in
    let added = c.counts_of_item.result in
    let is : get_or items i x ≡ x = sym c.item-item.is in
    c.with-sum.ensures ∙ ap (λ sum. plus sum added) c.loop-item.invariant
    ∙ items_more added items i x c.loop-item-test.true is c.counts_of_item.ensures
