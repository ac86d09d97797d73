use Rattle.std.proofs.Common.{◌^◌, length, ap, arith}
use Rattle.rvm_asm.specs.Images.{pieces_of}
use Rattle.rvm_elf.specs.Spelling.{all_bytes}
use Rattle.rvm_elf.proofs.Writing.{count_more, bytes_none, within_limit, above_limit}
use Rattle.rvm_elf.proofs.write.count_bytes.Goals as goal

pub returns-then-count-gt-MAX_BYTES : goal.returns-then-count-gt-MAX_BYTES
returns-then-count-gt-MAX_BYTES c =
    let one = count_more c.args.segments.now c.loop-segment.segment-index c.segment-item.result c.loop-segment-test.true c.segment-item.is in
    above_limit (length (all_bytes (pieces_of c.args.segments.now))) (2 ^ 24) (omega (arith, one, c.loop-segment.invariant.sum, c.len-count.ensures, c.segment-item.result.bytes.ok))

pub loop-segment-preserved : goal.loop-segment-preserved
loop-segment-preserved c =
    let one = count_more c.args.segments.now c.loop-segment.segment-index c.segment-item.result c.loop-segment-test.true c.segment-item.is in
    record {
      sum = omega (arith, one, c.loop-segment.invariant.sum, c.len-count.ensures, c.segment-item.result.bytes.ok);
      most = omega arith;
    }

pub returns : goal.returns
returns c =
    let none = ap (λ xs. length xs) (bytes_none c.args.segments.now c.loop-segment.segment-index (omega arith)) in
    within_limit c.loop-segment.count (length (all_bytes (pieces_of c.args.segments.now))) (2 ^ 24) (omega (arith, none, c.loop-segment.invariant.sum)) c.loop-segment.invariant.most
