use Rattle.std.proofs.Common.{◌<◌, ◌∷◌, [], ◌++◌, length, arith}
use Rattle.rvm_board.specs.declared.event.BoardEvent.TheVariants.{Drain}
use Rattle.rvm_command.specs.Run.{IsPartWay, after, drains}
use Rattle.rvm_command.proofs.Runs.{all_made, begins, drain_fewer, drain_first, drains_none, goes_on, goes_out, is_held, none_made, on_err, some_held}
use Rattle.rvm_command.proofs.run.drain_all.Goals as goal

pub loop-buffer-init : goal.loop-buffer-init
loop-buffer-init g c = begins (drains c.args.guest.now.guest) c.args.guest.now c.args.buffer.now (g.W.Write.contents c.args.writer.now)

pub loop-buffer-preserved : goal.loop-buffer-preserved
loop-buffer-preserved g c =
    let now = c.loop-buffer.guest in
    let new = c.drain_once.new.guest in
    let some : 0 < length now.guest.board.shared.devices.output = omega arith in
    let writer = g.W.Write.contents c.make_room.new.writer in
    let so_far = goes_out c.loop-buffer.invariant c.in_ok-make_room.ensures.written in
    let taken = is_held (after (Drain 256 ∷ []) now.guest).bytes c.make_room.new.self c.drain_once.new.buffer writer c.drain_once.ensures.bytes in
    goes_on (drains now.guest) (drains new.guest) (Drain 256 ∷ []) now new c.make_room.new.self c.drain_once.new.buffer writer writer so_far
    (drain_first now new some c.drain_once.ensures.guest) c.drain_once.ensures.guest taken

pub returns-in_err-make_room-clause-err : goal.returns-in_err-make_room-clause-err
returns-in_err-make_room-clause-err g c =
    on_err c.from_residual.result (0 < length (c.args.buffer.now ++ (after (drains c.args.guest.now.guest) c.args.guest.now.guest).bytes)) (some_held c.loop-buffer.invariant c.in_err-make_room.ensures.err)

pub returns-in_err-make_room-clause-part : goal.returns-in_err-make_room-clause-part
returns-in_err-make_room-clause-part g c =
    on_err c.from_residual.result (IsPartWay (drains c.args.guest.now.guest) c.args.guest.now c.loop-buffer.guest) (none_made c.loop-buffer.invariant)

pub returns-clause-written : goal.returns-clause-written
returns-clause-written g c =
    (all_made (drains c.loop-buffer.guest.guest) c.loop-buffer.guest (g.W.Write.contents c.loop-buffer.writer) c.loop-buffer.invariant (drains_none c.loop-buffer.guest.guest (omega arith))).text

pub returns-clause-guest : goal.returns-clause-guest
returns-clause-guest g c =
    (all_made (drains c.loop-buffer.guest.guest) c.loop-buffer.guest (g.W.Write.contents c.loop-buffer.writer) c.loop-buffer.invariant (drains_none c.loop-buffer.guest.guest (omega arith))).made

pub loop-buffer-smaller : goal.loop-buffer-smaller
loop-buffer-smaller g c = omega (arith, drain_fewer c.loop-buffer.guest c.drain_once.new.guest c.drain_once.ensures.guest)
