use Rattle.std.proofs.Common.{◌≡◌, ◌&&◌, true, false, ◌+◌, ap, sym, ◌∙◌, drop, arith}
use Rattle.rvm_asm.specs.Images.{piece_of, pieces_of}
use Rattle.rvm_elf.specs.Load.{piece_fits, pieces_fit}
use Rattle.rvm_elf.proofs.Placing.{fit_more, fit_none}
use Rattle.rvm_elf.proofs.loading.segments_fit.Goals as goal

pub returns-then-not-segment_fits : goal.returns-then-not-segment_fits
returns-then-not-segment_fits c =
    let one = fit_more c.args.segments.now c.loop-segment.segment-index c.args.ram_size c.segment-item.result c.loop-segment-test.true c.segment-item.is in
    let fails : piece_fits (piece_of c.segment-item.result) c.args.ram_size ≡ false = sym c.segment_fits.ensures ∙ c.if-not-segment_fits.true in
    sym (sym c.loop-segment.invariant ∙ one ∙ ap (λ b. b && pieces_fit (pieces_of (drop (c.loop-segment.segment-index + 1) c.args.segments.now)) c.args.ram_size) fails)

pub loop-segment-preserved : goal.loop-segment-preserved
loop-segment-preserved c =
    let one = fit_more c.args.segments.now c.loop-segment.segment-index c.args.ram_size c.segment-item.result c.loop-segment-test.true c.segment-item.is in
    let fits : piece_fits (piece_of c.segment-item.result) c.args.ram_size ≡ true = sym c.segment_fits.ensures ∙ c.if-not-segment_fits.false in
    sym (one ∙ ap (λ b. b && pieces_fit (pieces_of (drop (c.loop-segment.segment-index + 1) c.args.segments.now)) c.args.ram_size) fits) ∙ c.loop-segment.invariant

pub returns : goal.returns
returns c = sym (fit_none c.args.segments.now c.loop-segment.segment-index c.args.ram_size (omega arith)) ∙ c.loop-segment.invariant
