use Rattle.std.proofs.Common.{◌++◌, length, ap, ◌∙◌, arith}
use Rattle.rvm_elf.proofs.Writing.{bytes_more, count_more, bytes_none, appended_more, appended_all}
use Rattle.rvm_elf.proofs.write.append_all_bytes.Goals as goal

pub append_bytes-requires : goal.append_bytes-requires
append_bytes-requires c =
    let one = count_more c.args.segments.now c.loop-segment.segment-index c.segment-item.result c.loop-segment-test.true c.segment-item.is in
    omega (arith, one, ap (λ xs. length xs) c.deref.ensures.value)

pub loop-segment-preserved : goal.loop-segment-preserved
loop-segment-preserved c =
    let one = count_more c.args.segments.now c.loop-segment.segment-index c.segment-item.result c.loop-segment-test.true c.segment-item.is in
    let parts = bytes_more c.args.segments.now c.loop-segment.segment-index c.segment-item.result c.loop-segment-test.true c.segment-item.is in
    record {
      items = appended_more _ _ _ _ _ _ (c.append_bytes.ensures.items ∙ ap (λ xs. c.loop-segment.file.items ++ xs) c.deref.ensures.value) parts c.loop-segment.invariant.items;
      room = omega (arith, one, ap (λ xs. length xs) c.deref.ensures.value, c.append_bytes.ensures.len, c.append_bytes.ensures.capacity);
    }

pub returns : goal.returns
returns c = appended_all _ _ _ (bytes_none c.args.segments.now c.loop-segment.segment-index (omega arith)) c.loop-segment.invariant.items
