use Rattle.std.proofs.Common.{ap, sym, ◌∙◌}
use Rattle.rvm_guest.specs.TheGuest.{board}
use Rattle.rvm_message.specs.Frames.{no_frame}
use Rattle.rvm_protocol.specs.Frames as frames
use Rattle.rvm_protocol.specs.Receiving.{came}
use Rattle.rvm_host.specs.Modes.{mode_of, plain_of}
use Rattle.rvm_host.proofs.Targets.{if_ok, on_err}
use Rattle.rvm_host.proofs.Hearing.{Heeds, as_it_is, as_none, err_heeded, heard, heard_alone, if_heard, so_heard, so_heeded}
use Rattle.rvm_host.proofs.Sendings.{answer_sent, if_answer_sent}
use Rattle.rvm_host.proofs.mode.Mode.came.Goals as goal

pub returns-in-Accept-clause-answer : goal.returns-in-Accept-clause-answer
returns-in-Accept-clause-answer g c = λ version.
    heard_alone c.args.limit c.args.frame.now (frames.Accept c.in-Accept.move_number) (mode_of (plain_of c.args.self.now)) (mode_of (plain_of c.accepted-in-Accept.new.self)) (as_it_is c.in-Accept.is c.if-not-can_come.ensures)
    version c.alone-in-Accept.result c.accepted-in-Accept.result c.alone-in-Accept.ensures.reply c.alone-in-Accept.ensures.frame (c.accepted-in-Accept.ensures c.args.limit version)

pub returns-in-Refuse-clause-answer : goal.returns-in-Refuse-clause-answer
returns-in-Refuse-clause-answer g c = λ version.
    so_heard c.args.limit c.args.frame.now (frames.Refuse c.in-Refuse.move_number c.in-Refuse.limit) (mode_of (plain_of c.args.self.now)) (mode_of (plain_of c.declined.new.self)) (as_it_is c.in-Refuse.is c.if-not-can_come.ensures)
    version c.declined.result (c.declined.ensures.answer c.args.limit version)

pub returns-in-Page-clause-answer : goal.returns-in-Page-clause-answer
returns-in-Page-clause-answer g c = λ version.
    heard_alone c.args.limit c.args.frame.now (frames.Page c.in-Page.move_number c.in-Page.page c.in-Page.copy_number c.in-Page.bytes) (mode_of (plain_of c.args.self.now)) (mode_of (plain_of c.page.new.self)) (as_it_is c.in-Page.is c.if-not-can_come.ensures)
    version c.alone-in-Page.result c.page.result c.alone-in-Page.ensures.reply c.alone-in-Page.ensures.frame (c.page.ensures c.args.limit version)

pub returns-in-RoundEnd-clause-answer : goal.returns-in-RoundEnd-clause-answer
returns-in-RoundEnd-clause-answer g c = λ version.
    heard_alone c.args.limit c.args.frame.now (frames.RoundEnd c.in-RoundEnd.move_number c.in-RoundEnd.round c.in-RoundEnd.sent c.in-RoundEnd.skipped c.in-RoundEnd.left) (mode_of (plain_of c.args.self.now)) (mode_of (plain_of c.args.self.now)) (as_it_is c.in-RoundEnd.is c.if-not-can_come.ensures)
    version c.alone-in-RoundEnd.result c.round_ended.result c.alone-in-RoundEnd.ensures.reply c.alone-in-RoundEnd.ensures.frame (c.round_ended.ensures c.args.limit version c.in-RoundEnd.round c.in-RoundEnd.sent c.in-RoundEnd.skipped c.in-RoundEnd.left)

pub returns-in_ok-lost-in-Lost-clause-answer : goal.returns-in_ok-lost-in-Lost-clause-answer
returns-in_ok-lost-in-Lost-clause-answer g c = λ version.
    let n = c.in-Lost.move_number in
    heard_alone c.args.limit c.args.frame.now (frames.Lost n c.as_slice.result.now) (mode_of (plain_of c.args.self.now)) (mode_of (plain_of c.lost.new.self))
    (as_it_is c.in-Lost.is c.if-not-can_come.ensures ∙ ap (λ ps. frames.Lost n ps) (sym c.as_slice.ensures))
    version c.alone-in-Lost.result c.in_ok-lost-in-Lost.field-0 c.alone-in-Lost.ensures.reply c.alone-in-Lost.ensures.frame
    (c.in_ok-lost-in-Lost.ensures.answer c.args.limit version)

pub returns-in-State-clause-answer : goal.returns-in-State-clause-answer
returns-in-State-clause-answer g c =
    let n = c.in-State.move_number in
    if_heard c.args.limit c.args.frame.now (frames.State n c.as_slice-in-State.result.now c.as_slice-in-State-2.result.now) (mode_of (plain_of c.args.self.now)) (mode_of (plain_of c.state.new.self))
    (as_it_is c.in-State.is c.if-not-can_come.ensures ∙ (λ i. frames.State n (sym c.as_slice-in-State.ensures i) (sym c.as_slice-in-State-2.ensures i)))
    c.state.result
    (if_ok c.state.result _ _ (λ a so version. so c.args.limit version) c.state.ensures.answer)

pub returns-in-Ready-clause-answer : goal.returns-in-Ready-clause-answer
returns-in-Ready-clause-answer g c = λ version.
    so_heard c.args.limit c.args.frame.now (frames.Ready c.in-Ready.move_number) (mode_of (plain_of c.args.self.now)) (mode_of (plain_of c.ready.new.self)) (as_it_is c.in-Ready.is c.if-not-can_come.ensures)
    version c.ready.result (c.ready.ensures.answer c.args.limit version)

pub returns-in-Go-clause-answer : goal.returns-in-Go-clause-answer
returns-in-Go-clause-answer g c = λ version.
    so_heard c.args.limit c.args.frame.now (frames.Go c.in-Go.move_number) (mode_of (plain_of c.args.self.now)) (mode_of (plain_of c.go.new.self)) (as_it_is c.in-Go.is c.if-not-can_come.ensures)
    version c.go.result (c.go.ensures.answer c.args.limit version)

pub returns-in-Started-clause-answer : goal.returns-in-Started-clause-answer
returns-in-Started-clause-answer g c = λ version.
    heard_alone c.args.limit c.args.frame.now (frames.Started c.in-Started.move_number) (mode_of (plain_of c.args.self.now)) (mode_of (plain_of c.started.new.self)) (as_it_is c.in-Started.is c.if-not-can_come.ensures)
    version c.alone-in-Started.result c.started.result c.alone-in-Started.ensures.reply c.alone-in-Started.ensures.frame (c.started.ensures c.args.limit version)

pub returns-in-Abort-clause-answer : goal.returns-in-Abort-clause-answer
returns-in-Abort-clause-answer g c = λ version.
    heard_alone c.args.limit c.args.frame.now (frames.Abort c.in-Abort.move_number) (mode_of (plain_of c.args.self.now)) (mode_of (plain_of c.dropped.new.self)) (as_it_is c.in-Abort.is c.if-not-can_come.ensures)
    version c.alone-in-Abort.result c.dropped.result c.alone-in-Abort.ensures.reply c.alone-in-Abort.ensures.frame (c.dropped.ensures c.args.limit version)

pub returns-in-Zero-clause-answer : goal.returns-in-Zero-clause-answer
returns-in-Zero-clause-answer g c = λ version.
    heard_alone c.args.limit c.args.frame.now (frames.Page c.in-Zero.move_number c.in-Zero.page c.in-Zero.copy_number board.zeros) (mode_of (plain_of c.args.self.now)) (mode_of (plain_of c.zero.new.self)) (as_it_is c.in-Zero.is c.if-not-can_come.ensures)
    version c.alone-in-Zero.result c.zero.result c.alone-in-Zero.ensures.reply c.alone-in-Zero.ensures.frame (c.zero.ensures c.args.limit version)

pub returns-then-not-can_come-clause-answer : goal.returns-then-not-can_come-clause-answer
returns-then-not-can_come-clause-answer g c = λ version.
    heard_alone c.args.limit c.args.frame.now no_frame (mode_of (plain_of c.args.self.now)) (mode_of (plain_of c.accepted.new.self)) (as_none c.args.frame.now c.if-not-can_come.ensures)
    version c.alone.result c.accepted.result c.alone.ensures.reply c.alone.ensures.frame (c.accepted.ensures c.args.limit version)

pub returns-in-Offer-clause-answer : goal.returns-in-Offer-clause-answer
returns-in-Offer-clause-answer g c =
    if_heard c.args.limit c.args.frame.now (frames.Offer c.in-Offer.move_number c.in-Offer.pages c.in-Offer.harts) (mode_of (plain_of c.args.self.now)) (mode_of (plain_of c.offered.new.self))
    (as_it_is c.in-Offer.is c.if-not-can_come.ensures) c.offered.result c.offered.ensures.answer

pub returns-in-Offer-clause-sent : goal.returns-in-Offer-clause-sent
returns-in-Offer-clause-sent g c = if_answer_sent c.in-Offer.is c.if-not-can_come.ensures c.offered.result c.offered.ensures.sent

pub returns-in-State-clause-sent : goal.returns-in-State-clause-sent
returns-in-State-clause-sent g c = if_answer_sent c.in-State.is c.if-not-can_come.ensures c.state.result c.state.ensures.sent

pub returns-in-Ready-clause-sent : goal.returns-in-Ready-clause-sent
returns-in-Ready-clause-sent g c = λ version. answer_sent c.in-Ready.is c.if-not-can_come.ensures version c.ready.result.1 (c.ready.ensures.sent version)

pub returns-in-Go-clause-sent : goal.returns-in-Go-clause-sent
returns-in-Go-clause-sent g c = λ version. answer_sent c.in-Go.is c.if-not-can_come.ensures version c.go.result.1 (c.go.ensures.sent version)

pub returns-in-Part-clause-answer : goal.returns-in-Part-clause-answer
returns-in-Part-clause-answer g c =
    if_heard c.args.limit c.args.frame.now (frames.Part c.in-Part.move_number c.in-Part.stamp c.in-Part.part c.in-Part.parts c.in-Part.bytes) (mode_of (plain_of c.args.self.now)) (mode_of (plain_of c.part.new.self))
    (as_it_is c.in-Part.is c.if-not-can_come.ensures)
    c.part.result
    (if_ok c.part.result _ _ (λ a so version. so c.args.limit version) c.part.ensures.answer)

pub returns-in-Part-clause-sent : goal.returns-in-Part-clause-sent
returns-in-Part-clause-sent g c = if_answer_sent c.in-Part.is c.if-not-can_come.ensures c.part.result c.part.ensures.sent

pub returns-in-State-clause-refused : goal.returns-in-State-clause-refused
returns-in-State-clause-refused g c =
    let n = c.in-State.move_number in
    let mode = mode_of (plain_of c.args.self.now) in
    err_heeded c.args.limit c.args.frame.now (frames.State n c.as_slice-in-State.result.now c.as_slice-in-State-2.result.now) mode mode
    (as_it_is c.in-State.is c.if-not-can_come.ensures ∙ (λ i. frames.State n (sym c.as_slice-in-State.ensures i) (sym c.as_slice-in-State-2.ensures i)))
    c.state.result c.state.ensures.refused

pub returns-in-Part-clause-refused : goal.returns-in-Part-clause-refused
returns-in-Part-clause-refused g c =
    let mode = mode_of (plain_of c.args.self.now) in
    err_heeded c.args.limit c.args.frame.now (frames.Part c.in-Part.move_number c.in-Part.stamp c.in-Part.part c.in-Part.parts c.in-Part.bytes) mode mode
    (as_it_is c.in-Part.is c.if-not-can_come.ensures) c.part.result c.part.ensures.refused

pub returns-in_err-lost-in-Lost-clause-refused : goal.returns-in_err-lost-in-Lost-clause-refused
returns-in_err-lost-in-Lost-clause-refused g c =
    let n = c.in-Lost.move_number in
    let limit = c.args.limit in
    let mode = mode_of (plain_of c.args.self.now) in
    on_err c.from_residual.result (Heeds (came board limit (heard c.args.frame.now) mode))
    (so_heeded limit c.args.frame.now (frames.Lost n c.as_slice.result.now) mode mode
    (as_it_is c.in-Lost.is c.if-not-can_come.ensures ∙ ap (λ ps. frames.Lost n ps) (sym c.as_slice.ensures))
    (c.in_err-lost-in-Lost.ensures.refused limit))
