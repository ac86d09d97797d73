use Rattle.std.proofs.Common.{◌≡◌, true, ◌<◌, List, ℕ, Option, Vec, Global, ap, sym, subst, ◌∙◌, arith}
use Rattle.std.specs.Prelude.{is_some, option_map}
use Rattle.rvm_frame.specs.Bodies as frame
use Rattle.rvm_protocol.specs.Modes.{Staging, says}
use Rattle.rvm_protocol.specs.Pages.{gathered}
use Rattle.rvm_protocol.specs.Receiving.{pieces_joined, state_came}
use Rattle.rvm_protocol.specs.Replies.{Kept}
use Rattle.rvm_protocol.specs.Staging.{with_part}
use Rattle.rvm_guest.specs.Pages.{joined}
use Rattle.rvm_guest.specs.TheGuest.{board}
use Rattle.rvm_handover.specs.Stages.{PlainStage, stage_of}
use Rattle.rvm_handover.specs.Pieces.{IsPartLeft, left_of, reason_joined, with_piece}
use Rattle.rvm_handover.specs.Outcomes.{BoardOutcome, IsLeft}
use Rattle.rvm_handover.proofs.Parts.{by_whole, is_place, lack_of_whole, left_kept, left_too, part_is, ready_too, stage_with_piece}
use Rattle.rvm_handover.proofs.Told.{told_joined}
use Rattle.rvm_handover.proofs.staging.Staging.part.Goals as goal

pub returns-in_default-clause-left : goal.returns-in_default-clause-left
returns-in_default-clause-left g c =
    let s : PlainStage = c.args.self in
    let there = subst (λ (b : List ℕ). is_some (gathered (with_part (stage_of s) c.args.stamp c.args.part c.args.parts b).pieces 0 c.args.parts) ≡ true) c.as_slice.ensures c.in_default.ensures.memory in
    λ move. lack_of_whole move s c.args.stamp c.args.part c.args.parts c.args.bytes (sym c.if-not-takes.ensures.takes) there

pub returns-in_default-whole-clause-left : goal.returns-in_default-whole-clause-left
returns-in_default-whole-clause-left g c =
    let s : PlainStage = c.args.self in
    let items : Option (Vec ℕ Global) → Option (List ℕ) = λ o. option_map (λ v. v.items) o in
    let is = c.in-Ok.ensures.whole ∙ ap (λ (b : List ℕ). option_map joined (gathered (with_part (stage_of s) c.args.stamp c.args.part c.args.parts b).pieces 0 c.args.parts)) c.as_slice.ensures in
    let place = is_place s c.args.stamp c.args.part c.args.parts (sym c.if-not-takes.ensures.takes) in
    let lt : c.args.part < 6 = omega (arith, place, c.requires) in
    λ move.
    part_is move s c.args.stamp c.args.part c.args.parts c.args.bytes (items c.in-Ok.whole) (sym c.if-not-takes.ensures.takes) is
    ∙ ap (λ w. by_whole move (stage_of s) (with_part (stage_of s) c.args.stamp c.args.part c.args.parts c.args.bytes) c.args.part c.args.parts (items w)) c.in_default-whole.is
    ∙ ap (λ x. says (Kept c.args.part c.args.parts) (Staging move x)) (sym (ap stage_of c.with_piece.ensures ∙ stage_with_piece s c.args.stamp c.args.part c.args.parts c.args.bytes c.if-not-takes.ensures.places lt))

pub returns-in_default-state_parts-clause-left : goal.returns-in_default-state_parts-clause-left
returns-in_default-state_parts-clause-left g c =
    let s : PlainStage = c.args.self in
    let items : Option (Vec ℕ Global) → Option (List ℕ) = λ o. option_map (λ v. v.items) o in
    let is = c.in-Ok.ensures.whole ∙ ap (λ (b : List ℕ). option_map joined (gathered (with_part (stage_of s) c.args.stamp c.args.part c.args.parts b).pieces 0 c.args.parts)) c.as_slice.ensures in
    λ move.
    part_is move s c.args.stamp c.args.part c.args.parts c.args.bytes (items c.in-Ok.whole) (sym c.if-not-takes.ensures.takes) is
    ∙ ap (λ w. by_whole move (stage_of s) (with_part (stage_of s) c.args.stamp c.args.part c.args.parts c.args.bytes) c.args.part c.args.parts (items w)) c.in-Some.is
    ∙ ap (λ x. pieces_joined board move (stage_of s) (with_part (stage_of s) c.args.stamp c.args.part c.args.parts c.args.bytes) x) (ap (λ b. frame.state.read b) (sym c.as_slice-2.ensures.value) ∙ sym c.in_default-state_parts.ensures)

pub returns-in-Ok-state-clause-ready : goal.returns-in-Ok-state-clause-ready
returns-in-Ok-state-clause-ready g c =
    let s : PlainStage = c.args.self in
    let items : Option (Vec ℕ Global) → Option (List ℕ) = λ o. option_map (λ v. v.items) o in
    let is = c.in-Ok.ensures.whole ∙ ap (λ (b : List ℕ). option_map joined (gathered (with_part (stage_of s) c.args.stamp c.args.part c.args.parts b).pieces 0 c.args.parts)) c.as_slice.ensures in
    let numbers : List ℕ = c.in-Some-state_parts.numbers.items in
    let body : List ℕ = c.in-Some-state_parts.state.now in
    λ move.
    let h = ap (λ ns. state_came board move (stage_of s) (stage_of s) ns body) (sym c.as_slice-3.ensures.value) ∙ c.in-Ok-state.ensures.ready move in
    part_is move s c.args.stamp c.args.part c.args.parts c.args.bytes (items c.in-Ok.whole) (sym c.if-not-takes.ensures.takes) is
    ∙ ap (λ w. by_whole move (stage_of s) (with_part (stage_of s) c.args.stamp c.args.part c.args.parts c.args.bytes) c.args.part c.args.parts (items w)) c.in-Some.is
    ∙ ap (λ x. pieces_joined board move (stage_of s) (with_part (stage_of s) c.args.stamp c.args.part c.args.parts c.args.bytes) x) (ap (λ b. frame.state.read b) (sym c.as_slice-2.ensures.value) ∙ sym c.in-Some-state_parts.ensures)
    ∙ ready_too move s c.args.stamp c.args.part c.args.parts c.args.bytes numbers body c.if-not-takes.ensures.bytes c.in-Ok-state.guest.guest h

pub returns-in-Err-clause-left : goal.returns-in-Err-clause-left
returns-in-Err-clause-left g c =
    let s : PlainStage = c.args.self in
    let items : Option (Vec ℕ Global) → Option (List ℕ) = λ o. option_map (λ v. v.items) o in
    let is = c.in-Ok.ensures.whole ∙ ap (λ (b : List ℕ). option_map joined (gathered (with_part (stage_of s) c.args.stamp c.args.part c.args.parts b).pieces 0 c.args.parts)) c.as_slice.ensures in
    let numbers : List ℕ = c.in-Some-state_parts.numbers.items in
    let body : List ℕ = c.in-Some-state_parts.state.now in
    let place = is_place s c.args.stamp c.args.part c.args.parts (sym c.if-not-takes.ensures.takes) in
    let lt : c.args.part < 6 = omega (arith, place, c.requires) in
    λ move.
    let came =
    part_is move s c.args.stamp c.args.part c.args.parts c.args.bytes (items c.in-Ok.whole) (sym c.if-not-takes.ensures.takes) is
    ∙ ap (λ w. by_whole move (stage_of s) (with_part (stage_of s) c.args.stamp c.args.part c.args.parts c.args.bytes) c.args.part c.args.parts (items w)) c.in-Some.is
    ∙ ap (λ x. pieces_joined board move (stage_of s) (with_part (stage_of s) c.args.stamp c.args.part c.args.parts c.args.bytes) x) (ap (λ b. frame.state.read b) (sym c.as_slice-2.ensures.value) ∙ sym c.in-Some-state_parts.ensures) in
    let h = subst (λ (x : PlainStage). IsLeft move c.in-Err.reason x (state_came board move (stage_of s) (stage_of s) numbers body)) c.in-Err.ensures.stage
    (subst (λ (ns : List ℕ). IsLeft move c.in-Err.reason c.in-Err.stage (state_came board move (stage_of s) (stage_of s) ns body)) c.as_slice-3.ensures.value (c.in-Err.ensures.left move)) in
    left_kept move c.args.stamp c.args.part c.args.parts c.args.bytes s c.in-Err.stage c.kept_if.result.1 c.in-Err.reason c.kept_if.result.0 _
    c.kept_if.ensures.reason c.kept_if.ensures.stage c.in-Err.ensures.stage
    (subst (λ (o : BoardOutcome). IsPartLeft move c.args.part c.args.parts (reason_joined c.in-Err.reason) (left_of (reason_joined c.in-Err.reason) (with_piece c.args.stamp c.args.part c.args.parts c.args.bytes s) s) o) (sym came)
    (left_too move s c.args.stamp c.args.part c.args.parts c.args.bytes numbers body c.if-not-takes.ensures.bytes c.in-Err.reason c.if-not-takes.ensures.places lt h))

pub returns-in-Err-clause-told : goal.returns-in-Err-clause-told
returns-in-Err-clause-told g c = told_joined c.in-Err.reason c.kept_if.result.0 c.kept_if.ensures.reason c.in-Err.ensures.told
