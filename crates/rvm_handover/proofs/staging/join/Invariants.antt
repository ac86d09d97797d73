use Rattle.std.proofs.Common.{◌≡◌, ◌-◌, get_or, None, Some}
use Rattle.std.specs.Prelude.{option_map}
use Rattle.rvm_protocol.specs.Pages.{gathered, put}
use Rattle.rvm_guest.specs.Pages.{joined}
use Rattle.rvm_handover.proofs.Gathering.{behind}
use Rattle.rvm_handover.proofs.staging.join.Given as goal

-- the bytes so far, and those of the pieces from this one on, are all
abbrev pub invariant-loop-place : goal.invariant-loop-place
invariant-loop-place l =
    let piece = put (λ i. get_or l.pieces i None) l.part (Some l.bytes) in
    behind l.whole.items (option_map joined (gathered piece l.place (l.parts - l.place))) ≡ option_map joined (gathered piece 0 l.parts)
