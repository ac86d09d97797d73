use Rattle.std.proofs.Common.{◌≤◌, length, subst, sym, ◌∙◌}
use Rattle.rvm_guest.specs.Body.{body_of}
use Rattle.rvm_state.specs.Spelling.{longest}
use Rattle.rvm_source.proofs.Pieces.{are_cut, not_longer}
use Rattle.rvm_source.proofs.state.frame_body.Goals as goal

pub returns-clause-pieces : goal.returns-clause-pieces
returns-clause-pieces g c =
    are_cut (λ b. b.items) c.args.numbers.now c.as_slice.result.now (body_of c.args.guest.now.guest) c.state_body.result c.state_body.ensures (c.as_slice.ensures.value ∙ c.in_ok-state.ensures.bytes)

pub returns-clause-size : goal.returns-clause-size
returns-clause-size g c =
    not_longer (λ b. b.items) c.args.numbers.now c.as_slice.result.now c.state_body.result c.state_body.ensures c.requires
    (subst (λ b. length b ≤ longest) (sym c.as_slice.ensures.value) c.in_ok-state.ensures.size)
