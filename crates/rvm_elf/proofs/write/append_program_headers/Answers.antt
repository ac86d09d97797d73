use Rattle.std.proofs.Common.{◌≡◌, ◌+◌, ◌++◌, length, drop, ap, sym, ◌∙◌, arith}
use Rattle.rvm_asm.specs.Images.{piece_of, pieces_of}
use Rattle.rvm_elf.specs.Spelling.{program_header, program_headers}
use Rattle.rvm_elf.proofs.Placing.{and_first, and_second}
use Rattle.rvm_elf.proofs.Writing.{small_more, count_more, headers_more, headers_none, appended_more, appended_all}
use Rattle.rvm_elf.proofs.write.append_program_headers.Goals as goal

pub append_program_header-requires-clause-small : goal.append_program_header-requires-clause-small
append_program_header-requires-clause-small c =
    and_first _ _ (sym (small_more c.args.segments.now c.loop-segment.segment-index c.segment-item.result c.loop-segment-test.true c.segment-item.is) ∙ c.loop-segment.invariant.small)

pub loop-segment-preserved : goal.loop-segment-preserved
loop-segment-preserved c =
    let segments = c.args.segments.now in
    let i = c.loop-segment.segment-index in
    let s = c.segment-item.result in
    let offset = c.loop-segment.offset in
    let rest = pieces_of (drop (i + 1) segments) in
    let count = count_more segments i s c.loop-segment-test.true c.segment-item.is in
    let headers = headers_more segments i offset s c.loop-segment-test.true c.segment-item.is in
    let size : length s.bytes.items ≡ c.len-offset.result = omega (arith, c.len-offset.ensures, s.bytes.ok) in
    record {
      items =
          appended_more _ _ _ _ _ _ c.append_program_header.ensures.items
          (headers ∙ ap (λ n. program_header offset (piece_of s) ++ program_headers (offset + n) rest) size) c.loop-segment.invariant.items;
      len = omega (arith, c.append_program_header.ensures.len, c.loop-segment.invariant.len);
      capacity = omega (arith, c.append_program_header.ensures.capacity, c.loop-segment.invariant.capacity);
      small = and_second _ _ (sym (small_more segments i s c.loop-segment-test.true c.segment-item.is) ∙ c.loop-segment.invariant.small);
      reach = omega (arith, count, size, c.loop-segment.invariant.reach);
    }

pub returns-clause-items : goal.returns-clause-items
returns-clause-items c = appended_all _ _ _ (headers_none c.args.segments.now c.loop-segment.segment-index c.loop-segment.offset (omega arith)) c.loop-segment.invariant.items
