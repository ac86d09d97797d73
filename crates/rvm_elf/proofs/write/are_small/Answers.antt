use Rattle.std.proofs.Common.{◌≡◌, ◌&&◌, true, false, ◌+◌, ap, sym, ◌∙◌, drop, arith}
use Rattle.rvm_asm.specs.Images.{piece_of, pieces_of}
use Rattle.rvm_elf.specs.Spelling.{is_small, are_small}
use Rattle.rvm_elf.proofs.Writing.{small_more, small_none}
use Rattle.rvm_elf.proofs.write.are_small.Goals as goal

pub returns-then-not-is_small : goal.returns-then-not-is_small
returns-then-not-is_small c =
    let one = small_more c.args.segments.now c.loop-segment.segment-index c.segment-item.result c.loop-segment-test.true c.segment-item.is in
    let fails : is_small (piece_of c.segment-item.result) ≡ false = sym c.is_small.ensures ∙ c.if-not-is_small.true in
    sym (sym c.loop-segment.invariant ∙ one ∙ ap (λ b. b && are_small (pieces_of (drop (c.loop-segment.segment-index + 1) c.args.segments.now))) fails)

pub loop-segment-preserved : goal.loop-segment-preserved
loop-segment-preserved c =
    let one = small_more c.args.segments.now c.loop-segment.segment-index c.segment-item.result c.loop-segment-test.true c.segment-item.is in
    let fits : is_small (piece_of c.segment-item.result) ≡ true = sym c.is_small.ensures ∙ c.if-not-is_small.false in
    sym (one ∙ ap (λ b. b && are_small (pieces_of (drop (c.loop-segment.segment-index + 1) c.args.segments.now))) fits) ∙ c.loop-segment.invariant

pub returns : goal.returns
returns c = sym (small_none c.args.segments.now c.loop-segment.segment-index (omega arith)) ∙ c.loop-segment.invariant
