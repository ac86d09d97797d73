use Rattle.std.proofs.Common.{◌∙◌, ◌*◌, ◌≡◌, length, ap, arith}
use Rattle.rvm_source.proofs.Frames.{offer_is}
use Rattle.rvm_source.proofs.Sendings.{offer_can_be_sent}
use Rattle.rvm_source.proofs.source.offer_frame.Goals as goal

pub returns-clause-frame : goal.returns-clause-frame
returns-clause-frame g c =
    let guest = c.args.guest.now in
    let a = c.len-size.ensures.length ∙ ap length c.memory.ensures.bytes in
    let b = c.len-size.ensures.pages ∙ ap (λ xs. 4096 * length xs) c.memory.ensures.dirty in
    offer_is c.args.move_number c.pages.result c.harts.result c.len-size.result (length guest.dirty) guest.guest a b
    (c.pages.ensures.pages ∙ ap length c.memory-2.ensures.dirty) c.harts.ensures.count

pub returns-clause-sent : goal.returns-clause-sent
returns-clause-sent g c = λ version.
    let guest = c.args.guest.now in
    let a = c.len-size.ensures.length ∙ ap length c.memory.ensures.bytes in
    let b = c.len-size.ensures.pages ∙ ap (λ xs. 4096 * length xs) c.memory.ensures.dirty in
    let pages : c.pages.result ≡ length guest.dirty = c.pages.ensures.pages ∙ ap length c.memory-2.ensures.dirty in
    offer_can_be_sent version c.args.move_number c.pages.result c.harts.result c.requires c.ranges.move_number.fits
    (omega (arith, a, b, pages, c.memory.ensures.some)) c.pages.ensures.bound c.harts.ensures.some c.harts.ensures.bound
