use Rattle.std.proofs.Common.{◌≡◌, ◌-◌, get_or, None, Some}
use Rattle.std.specs.Prelude.{is_some}
use Rattle.rvm_protocol.specs.Pages.{gathered, put}
use Rattle.rvm_handover.proofs.staging.are_all_there.Given as goal

-- the pieces from this one on are all there if and only if all pieces are
abbrev pub invariant-loop-place : goal.invariant-loop-place
invariant-loop-place l =
    let piece = put (λ i. get_or l.pieces i None) l.part (Some l.bytes) in
    is_some (gathered piece l.place (l.parts - l.place)) ≡ is_some (gathered piece 0 l.parts)
