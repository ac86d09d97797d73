use Rattle.std.proofs.Common.{◌≡◌, ap, length, sym, ◌∙◌}
use Rattle.std.specs.Int.{div_ceil}
use Rattle.rvm_guest.specs.Body.{body_of}
use Rattle.rvm_source.proofs.Pieces.{count_is}
use Rattle.rvm_source.proofs.state.cut_piece.Goals as goal

pub returns-clause-parts : goal.returns-clause-parts
returns-clause-parts g c =
    let long : c.len.result ≡ length c.in_ok-body.body.items = c.len.ensures ∙ sym c.as_slice.ensures.len ∙ ap length c.as_slice.ensures.value in
    c.div_ceil.ensures ∙ ap (λ n. div_ceil n 4096) long
    ∙ count_is c.in_ok-body.body.items c.args.numbers.now (body_of c.args.guest.now.guest) c.in_ok-body.ensures.pieces
