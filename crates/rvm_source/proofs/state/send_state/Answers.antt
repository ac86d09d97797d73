use Rattle.std.proofs.Common.{arith, ◌<◌, ◌≡◌, ◌*◌, ◌^◌, ap, length, subst, sym, ◌∙◌}
use Rattle.rvm_message.specs.Frames.{frame_of}
use Rattle.rvm_precopy.specs.Plans.{IsPlanOf}
use Rattle.rvm_source.proofs.Sending.{newest_is, sent_piece, sent_whole}
use Rattle.rvm_source.proofs.Sendings.{piece_is_sent, some_page, state_is_sent}
use Rattle.rvm_guest.specs.Body.{body_of}
use Rattle.rvm_source.proofs.state.send_state.Goals as goal

pub returns-then-version-lt2-clause-sent : goal.returns-then-version-lt2-clause-sent
returns-then-version-lt2-clause-sent g c =
    let guest = c.args.guest.now in
    let rounds = c.args.rounds.now in
    let size : length guest.guest.board.shared.bytes ≡ 4096 * length guest.dirty =
    ap length (sym c.memory.ensures.bytes) ∙ sym c.len-size.ensures.length ∙ c.len-size.ensures.pages ∙ ap (λ d. 4096 * length d) c.memory.ensures.dirty in
    let plan = subst (λ n. IsPlanOf n rounds) c.pages-pages.ensures.pages c.pages-pages.ensures.plan in
    sent_whole c.args.version c.args.move_number c.args.turn c.newest.result.now c.in_ok-state_frame.field-0 guest rounds
    (omega arith) (newest_is guest rounds c.args.turn size c.requires.size plan) c.newest.ensures
    (ap frame_of c.in_ok-state_frame.ensures.frame)

pub returns-clause-sent : goal.returns-clause-sent
returns-clause-sent g c =
    let guest = c.args.guest.now in
    let rounds = c.args.rounds.now in
    let size : length guest.guest.board.shared.bytes ≡ 4096 * length guest.dirty =
    ap length (sym c.memory.ensures.bytes) ∙ sym c.len-size.ensures.length ∙ c.len-size.ensures.pages ∙ ap (λ d. 4096 * length d) c.memory.ensures.dirty in
    let plan = subst (λ n. IsPlanOf n rounds) c.pages-pages.ensures.pages c.pages-pages.ensures.plan in
    let piece = c.in_ok-piece.piece in
    sent_piece c.args.version c.args.move_number c.args.turn c.copies-stamp.result piece.parts c.turn_after.result c.newest-2.result.now piece.bytes guest rounds
    (omega arith) (newest_is guest rounds c.args.turn size c.requires.size plan) c.newest-2.ensures c.copies-stamp.ensures c.in_ok-piece.ensures.parts c.in_ok-piece.ensures.bytes c.turn_after.ensures.next

pub returns-then-version-lt2-clause-spelled : goal.returns-then-version-lt2-clause-spelled
returns-then-version-lt2-clause-spelled g c =
    let guest = c.args.guest.now in
    let rounds = c.args.rounds.now in
    let some : 0 < length rounds.to_send =
    some_page guest rounds c.len-size.result c.memory.ensures.some (c.len-size.ensures.length ∙ ap length c.memory.ensures.bytes)
    (c.len-size.ensures.pages ∙ ap (λ d. 4096 * length d) c.memory.ensures.dirty) c.requires.size in
    let plan = subst (λ n. IsPlanOf n rounds) c.pages-pages.ensures.pages c.pages-pages.ensures.plan in
    let few = subst (λ n. n < 2 ^ 32) c.copies-stamp.ensures c.copies-stamp.type_inv in
    let frame = c.in_ok-state_frame in
    state_is_sent c.args.version c.args.move_number c.newest.result.now (body_of guest.guest) frame.field-0 rounds
    c.if-version-lt2.true c.requires.move_number c.ranges.move_number.fits frame.ensures.frame frame.ensures.size
    c.newest.ensures plan some few c.requires.covered c.requires.copied

pub returns-clause-spelled : goal.returns-clause-spelled
returns-clause-spelled g c =
    let guest = c.args.guest.now in
    let rounds = c.args.rounds.now in
    let some : 0 < length rounds.to_send =
    some_page guest rounds c.len-size.result c.memory.ensures.some (c.len-size.ensures.length ∙ ap length c.memory.ensures.bytes)
    (c.len-size.ensures.pages ∙ ap (λ d. 4096 * length d) c.memory.ensures.dirty) c.requires.size in
    let piece = c.in_ok-piece in
    piece_is_sent c.args.version c.args.move_number c.copies-stamp.result c.args.turn piece.piece.parts
    c.newest-2.result.now (body_of guest.guest) piece.piece.bytes rounds c.if-version-lt2.false
    c.requires.move_number c.ranges.move_number.fits c.copies-stamp.type_inv c.copies-stamp.ensures c.newest-2.ensures
    some c.requires.covered c.requires.copied c.requires.turn piece.ensures.parts piece.ensures.bytes piece.ensures.few
