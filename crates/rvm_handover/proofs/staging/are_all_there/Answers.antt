use Rattle.std.proofs.Common.{get_or, None, Some, sym}
use Rattle.rvm_protocol.specs.Pages.{put}
use Rattle.rvm_handover.proofs.Gathering.{all_there, one_lacking, one_there}
use Rattle.rvm_handover.proofs.staging.are_all_there.Goals as goal

pub returns-in_default : goal.returns-in_default
returns-in_default c =
    one_lacking (put (λ i. get_or c.args.pieces.now i None) c.args.part (Some c.args.bytes.now)) c.loop-place.place c.args.parts _ c.loop-place.invariant c.loop-place-test.true (sym c.in_default.ensures)

pub loop-place-preserved : goal.loop-place-preserved
loop-place-preserved c =
    one_there (put (λ i. get_or c.args.pieces.now i None) c.args.part (Some c.args.bytes.now)) c.loop-place.place c.args.parts _ c.loop-place.invariant c.in-Some._piece.now c.loop-place-test.true (sym c.in-Some.ensures)

pub returns : goal.returns
returns c =
    all_there (put (λ i. get_or c.args.pieces.now i None) c.args.part (Some c.args.bytes.now)) c.loop-place.place c.args.parts _ c.loop-place.invariant c.loop-place-test.false
