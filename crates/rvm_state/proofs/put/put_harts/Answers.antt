use Rattle.std.proofs.Common.{arith}
use Rattle.rvm_state.proofs.Wrote.{one_hart_more}
use Rattle.rvm_state.proofs.put.put_harts.Goals as goal

pub loop-part-preserved : goal.loop-part-preserved
loop-part-preserved c =
    let so_far = c.loop-part.invariant in
    let put = c.put_hart.ensures in
    record {
      written = one_hart_more c.args.harts.now c.loop-part.part-index _ c.args.out.now.items c.loop-part.out.items c.put_hart.new.out.items c.loop-part-test.true so_far.written put.written;
      len = omega (arith, so_far.len, put.len);
      capacity = omega (arith, so_far.capacity, put.capacity);
    }
