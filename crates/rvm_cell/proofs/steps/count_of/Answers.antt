use Rattle.std.proofs.Common.{◌∙◌, ◌+◌, ◌∷◌, drop, ap, sym, arith}
use Rattle.std.proofs.lemmas.List.{drop_more}
use Rattle.rvm_recorder.proofs.Tellings.{count_left}
use Rattle.rvm_cell.proofs.steps.count_of.Goals as goal

pub overflow_add-count : goal.overflow_add-count
overflow_add-count c =
    let x = c.index-receipts-k.result in
    let all = c.args.receipts.now in
    let more = count_left all c.loop-k.k x (drop_more all c.loop-k.k x c.loop-k-test.true ∙ ap (λ z. z ∷ drop (c.loop-k.k + 1) all) (sym c.index-receipts-k.is)) in
    let so = c.loop-k.invariant.left in
    omega (arith, so, more, c.len-count.ensures.count, c.requires)

pub loop-k-preserved : goal.loop-k-preserved
loop-k-preserved c =
    let x = c.index-receipts-k.result in
    let all = c.args.receipts.now in
    let more = count_left all c.loop-k.k x (drop_more all c.loop-k.k x c.loop-k-test.true ∙ ap (λ z. z ∷ drop (c.loop-k.k + 1) all) (sym c.index-receipts-k.is)) in
    let so = c.loop-k.invariant.left in
    record {
      k = omega (arith, c.loop-k-test.true);
      left = omega (arith, so, more, c.len-count.ensures.count);
    }
