use Rattle.std.proofs.Common.{◌∙◌, ◌++◌, ◌+◌, [], sym, ap, refl, append_assoc, append-nil, subst, drop}
use Rattle.std.specs.Io.KnownBytes.{Appends}
use Rattle.rvm_asm.specs.Images.{pieces_of}
use Rattle.rvm_command.specs.Counting.{number_at}
use Rattle.rvm_command.specs.Coverage.{counted_listing}
use Rattle.rvm_command.proofs.Covering.{counted_listing_more, counted_listing_none, counted_segment}
use Rattle.rvm_command.proofs.Runs.{appends_more, appends_none}
use Rattle.rvm_command.proofs.coverage.write_coverage.Goals as goal

pub loop-segment-init : goal.loop-segment-init
loop-segment-init g c = ([], appends_none _, refl)

pub loop-segment-preserved : goal.loop-segment-preserved
loop-segment-preserved g c =
    let so_far = c.loop-segment.invariant in
    let number = number_at c.args.counts.now in
    let i = c.loop-segment.segment-index in
    let lines = counted_segment number c.segment-item.result in
    let rest = counted_listing number (pieces_of (drop (i + 1) c.args.segments.now)) in
    let more = counted_listing_more number c.args.segments.now i c.segment-item.result c.loop-segment-test.true c.segment-item.is in (
      so_far.0 ++ lines,
      appends_more _ _ _ so_far.0 lines so_far.1 c.in_ok-write_segment.ensures,
      append_assoc so_far.0 lines rest ∙ ap (λ l. so_far.0 ++ l) (sym more) ∙ so_far.2,
    )

pub returns : goal.returns
returns g c =
    let so_far = c.loop-segment.invariant in
    let none = counted_listing_none (number_at c.args.counts.now) c.args.segments.now c.loop-segment.segment-index c.loop-segment-test.false in
    subst (Appends (g.O.Write.contents c.args.output.now) (g.O.Write.contents c.loop-segment.output))
    (sym (append-nil so_far.0) ∙ ap (λ l. so_far.0 ++ l) (sym none) ∙ so_far.2) so_far.1
