use Rattle.std.proofs.Common.{◌≡◌, ap, ◌∙◌, arith}
use Rattle.rvm_board.specs.State.{State, parts_of}
use Rattle.rvm_command.proofs.Faulting.{mtval_of, parts_count}
use Rattle.rvm_command.proofs.latest_traps.mtval.Goals as goal

pub bounds-deref-hart : goal.bounds-deref-hart
bounds-deref-hart g c =
    let parts : c.deref.result.now ≡ parts_of c.args.guest.now.guest = c.deref.ensures.0 ∙ ap (λ (s : State). s.harts) c.snapshot-snapshot.ensures.state in
    omega (arith, parts_count c.deref.result.now c.args.guest.now.guest parts, c.requires)

pub returns : goal.returns
returns g c =
    mtval_of c.deref.result.now c.args.hart _ c.args.guest.now.guest c.requires (c.deref.ensures.0 ∙ ap (λ (s : State). s.harts) c.snapshot-snapshot.ensures.state)
