use Rattle.std.proofs.Common.{◌-◌, ◌+◌, get_or, List, ℕ, Option, None, Some, ap, sym, ◌∙◌}
use Rattle.std.specs.Prelude.{option_map}
use Rattle.rvm_protocol.specs.Pages.{gathered, put}
use Rattle.rvm_guest.specs.Pages.{joined}
use Rattle.rvm_handover.proofs.Gathering.{behind, done, lacking, taken}
use Rattle.rvm_handover.proofs.staging.join.Goals as goal

pub returns-in_default-clause-whole : goal.returns-in_default-clause-whole
returns-in_default-clause-whole c =
    lacking (put (λ i. get_or c.args.pieces.now i None) c.args.part (Some c.args.bytes.now)) c.loop-place.place c.args.parts c.loop-place.whole.items _ c.loop-place.invariant c.loop-place-test.true (sym c.in_default.ensures)

pub loop-place-preserved : goal.loop-place-preserved
loop-place-preserved c =
    let f : ℕ → Option (List ℕ) = put (λ i. get_or c.args.pieces.now i None) c.args.part (Some c.args.bytes.now) in
    let p : ℕ = c.loop-place.place in
    ap (λ xs. behind xs (option_map joined (gathered f (p + 1) (c.args.parts - (p + 1))))) c.in_ok-extend_from_slice.ensures.items
    ∙ taken f p c.args.parts c.loop-place.whole.items _ c.loop-place.invariant c.in-Some.piece.now c.loop-place-test.true (sym c.in-Some.ensures)

pub returns-clause-whole : goal.returns-clause-whole
returns-clause-whole c =
    done (put (λ i. get_or c.args.pieces.now i None) c.args.part (Some c.args.bytes.now)) c.loop-place.place c.args.parts c.loop-place.whole.items _ c.loop-place.invariant c.loop-place-test.false
