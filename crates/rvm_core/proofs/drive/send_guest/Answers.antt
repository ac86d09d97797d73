use Rattle.std.proofs.Common.{ap}
use Rattle.rvm_core.specs.Phases.{IsSentLeft}
use Rattle.rvm_core.specs.Worlds.{world_of}
use Rattle.rvm_core.proofs.Drives.{on_err}
use Rattle.rvm_core.proofs.Sending.{guest_sent, left_before_stop, left_closing, left_coming, left_in_round, left_in_state}
use Rattle.rvm_core.proofs.drive.send_guest.Goals as goal

pub returns-in_err-round-clause-left : goal.returns-in_err-round-clause-left
returns-in_err-round-clause-left g c =
    let old = world_of c.args.world.now in
    let new = world_of c.copy_round.new.world in
    on_err c.from_residual.result (IsSentLeft old new c.args.from c.args.first)
    (left_in_round c.args.from c.args.first old new c.in_err-round.ensures.left)

pub returns-in_err-deliver_all-clause-left : goal.returns-in_err-deliver_all-clause-left
returns-in_err-deliver_all-clause-left g c =
    let old = world_of c.args.world.now in
    let new = world_of c.deliver_all.new.world in
    on_err c.from_residual-in_err-deliver_all.result (IsSentLeft old new c.args.from c.args.first)
    (left_coming c.args.from c.args.first old (world_of c.copy_round.new.world) new c.in_ok-round.round
    c.in_ok-round.ensures.round c.in_err-deliver_all.ensures.left)

pub returns-in_err-apply-clause-left : goal.returns-in_err-apply-clause-left
returns-in_err-apply-clause-left g c =
    let old = world_of c.args.world.now in
    let new = world_of c.apply.new.self in
    on_err c.from_residual-in_err-apply.result (IsSentLeft old new c.args.from c.args.first)
    (left_before_stop c.args.from c.args.first old (world_of c.copy_round.new.world) (world_of c.deliver_all.new.world)
    new c.in_ok-round.round c.in_ok-round.ensures.round c.in_ok-deliver_all.ensures.made
    (ap world_of c.in_err-apply.ensures.err))

pub returns-in_err-state-clause-left : goal.returns-in_err-state-clause-left
returns-in_err-state-clause-left g c =
    let old = world_of c.args.world.now in
    let new = world_of c.send_state.new.world in
    on_err c.from_residual-in_err-state.result (IsSentLeft old new c.args.from c.args.first)
    (left_in_state c.args.from c.args.first old (world_of c.copy_round.new.world) (world_of c.deliver_all.new.world)
    (world_of c.apply.new.self) new c.in_ok-round.round c.in_ok-round.ensures.round c.in_ok-deliver_all.ensures.made
    c.in_ok-apply.ensures.next c.in_err-state.ensures.left)

pub returns-in_err-deliver_all-2-clause-left : goal.returns-in_err-deliver_all-2-clause-left
returns-in_err-deliver_all-2-clause-left g c =
    let old = world_of c.args.world.now in
    let new = world_of c.deliver_all-2.new.world in
    on_err c.from_residual-in_err-deliver_all-2.result (IsSentLeft old new c.args.from c.args.first)
    (left_closing c.args.from c.args.first old (world_of c.copy_round.new.world) (world_of c.deliver_all.new.world)
    (world_of c.apply.new.self) (world_of c.send_state.new.world) new c.in_ok-round.round c.in_ok-state.state
    c.in_ok-round.ensures.round c.in_ok-deliver_all.ensures.made c.in_ok-apply.ensures.next c.in_ok-state.ensures.state
    c.in_err-deliver_all-2.ensures.left)

pub returns-clause-sent : goal.returns-clause-sent
returns-clause-sent g c =
    guest_sent c.args.from c.args.first (world_of c.args.world.now) (world_of c.copy_round.new.world)
    (world_of c.deliver_all.new.world) (world_of c.apply.new.self) (world_of c.send_state.new.world)
    (world_of c.deliver_all-2.new.world) c.in_ok-round.round c.in_ok-state.state c.in_ok-round.ensures.round
    c.in_ok-deliver_all.ensures.made c.in_ok-apply.ensures.next c.in_ok-state.ensures.state
    c.in_ok-deliver_all-2.ensures.made
