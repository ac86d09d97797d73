use Rattle.std.proofs.Common.{◌+◌, ◌≤◌, get_or, ap, sym, ◌∙◌, arith}
use Rattle.std.specs.Int.RustNames.{count_ones}
use Rattle.std.specs.List.{sum_by}
use Rattle.std.proofs.lemmas.List.{take_all}
use Rattle.std.proofs.lemmas.List.Sums.{sum_by_more}
use Rattle.std.proofs.lemmas.Nat.{ones-le}
use Rattle.rvm_mem.proofs.Counted.{ones_are_count}
use Rattle.rvm_mem.proofs.page_set.ones.Goals as goal

pub loop-i-preserved : goal.loop-i-preserved
loop-i-preserved c =
    let few : count_ones (get_or c.args.rows.now c.loop-i.i 0) ≤ 64 = ones-le 64 (get_or c.args.rows.now c.loop-i.i 0) (let small = c.type_inv.rows c.loop-i.i in omega arith) in
    record {
      so_far = ap (λ n. n + count_ones (get_or c.args.rows.now c.loop-i.i 0)) c.loop-i.invariant.so_far ∙ sym (sum_by_more count_ones c.args.rows.now c.loop-i.i 0 c.loop-i-test.true);
      few = omega arith;
    }

pub returns : goal.returns
returns c =
    λ n are. c.loop-i.invariant.so_far ∙ ap (sum_by count_ones) (take_all c.loop-i.i c.args.rows.now (omega arith)) ∙ ones_are_count n c.args.rows.now are (λ k. let small = c.type_inv.rows k in omega arith)
