use Rattle.std.proofs.Common.{◌∙◌, ap, subst}
use Rattle.rvm_guest.specs.TheGuest.{board}
use Rattle.rvm_message.specs.Replies.{reply_of}
use Rattle.rvm_protocol.specs.World.{run}
use Rattle.rvm_core.specs.Phases.{IsStateLeft, copies}
use Rattle.rvm_core.specs.Worlds.{IsPartOf, world_of}
use Rattle.rvm_core.proofs.Drives.{on_err}
use Rattle.rvm_core.proofs.Sending.{no_state, state_left, state_sent}
use Rattle.rvm_core.proofs.drive.send_state.Goals as goal

pub returns-in_err-sent-clause-left : goal.returns-in_err-sent-clause-left
returns-in_err-sent-clause-left g c =
    let old = world_of c.args.world.now in
    let new = world_of c.apply.new.self in
    on_err c.from_residual.result (IsStateLeft old new c.args.from)
    (no_state c.args.from old new (ap world_of c.in_err-sent.ensures.err))

pub returns-in_err-copy_all-clause-left : goal.returns-in_err-copy_all-clause-left
returns-in_err-copy_all-clause-left g c =
    let old = world_of c.args.world.now in
    let once = world_of c.apply.new.self in
    let new = world_of c.copy_all.new.world in
    on_err c.from_residual-in_err-copy_all.result (IsStateLeft old new c.args.from)
    (state_left c.args.from old once new c.frames_told-frames.result (reply_of c.in_ok-sent.sent.reply)
    c.in_ok-sent.ensures.reply c.in_ok-sent.ensures.next c.frames_told-frames.ensures
    (subst (λ z. IsPartOf (copies c.args.from z) once new) c.saturating_sub.ensures c.in_err-copy_all.ensures.left))

pub returns-clause-state : goal.returns-clause-state
returns-clause-state g c =
    state_sent c.args.from (world_of c.args.world.now) (world_of c.apply.new.self) (world_of c.copy_all.new.world)
    c.frames_told-frames.result (reply_of c.in_ok-sent.sent.reply) c.in_ok-sent.ensures.reply c.in_ok-sent.ensures.next
    c.frames_told-frames.ensures
    (c.in_ok-copy_all.ensures.made
    ∙ ap (λ z. run board (world_of c.apply.new.self) (copies c.args.from z)) c.saturating_sub.ensures)
