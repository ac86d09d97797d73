use Rattle.std.proofs.Common.{◌∙◌, ◌+◌, ap, arith}
use Rattle.rvm_recorder.proofs.RoundsTold.{both_receipts, some_receipts}
use Rattle.rvm_recorder.proofs.items.both.Goals as goal

pub invariant_of-result : goal.invariant_of-result
invariant_of-result c = record {
  some = some_receipts c.args.first.now.rounds c.args.more.now.rounds c.in_ok-rounds.rounds c.in_ok-rounds.ensures c.args.first.now.some;
  counts = omega (arith, c.len.ensures, c.from-2.ensures, c.in_ok-_calls.ensures.0);
}

pub returns : goal.returns
returns c =
    let a = c.args.first.now in
    let b = c.args.more.now in
    both_receipts a.place a.seat a.count b.place b.seat b.count a.rounds b.rounds c.in_ok-rounds.rounds c.len-len.result
    c.in_ok-rounds.ensures c.len-len.ensures (c.if-branch.false ∙ c.in_ok-checked_add.ensures.1) c.if-more-first.false
    (c.if-branch-2.false ∙ c.in_ok-checked_add-2.ensures.1 ∙ ap (λ n. a.count + n) c.from.ensures)
