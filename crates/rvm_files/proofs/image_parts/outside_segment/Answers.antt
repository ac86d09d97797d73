use Rattle.std.proofs.Common.{◌∙◌, sym}
use Rattle.rvm_files.proofs.Pieces.{fits_next, none_fit}
use Rattle.rvm_files.proofs.image_parts.outside_segment.Goals as goal

pub loop-index-init : goal.loop-index-init
loop-index-init c = none_fit c.args.ram_size

pub loop-index-preserved : goal.loop-index-preserved
loop-index-preserved c =
    fits_next c.args.segments.now c.loop-index.index c.args.ram_size c.index-segments-index.result c.loop-index-test.true
    c.index-segments-index.is c.loop-index.invariant (sym c.segment_fits.ensures ∙ c.if-not-segment_fits.false)
