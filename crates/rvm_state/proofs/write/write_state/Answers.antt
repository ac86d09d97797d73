use Rattle.std.proofs.Common.{length}
use Rattle.rvm_board.specs.Snapshot.{state_in}
use Rattle.rvm_board.specs.State.{state_of}
use Rattle.rvm_state.proofs.Lengths.{not_longer}
use Rattle.rvm_state.proofs.Wrote.{guest_written, has_spelling, spelled}
use Rattle.rvm_state.proofs.write.write_state.Goals as goal

pub returns-clause-bytes : goal.returns-clause-bytes
returns-clause-bytes g c =
    let guest = c.args.guest.now.guest in
    let values = c.snapshot-snapshot.ensures in
    spelled guest c.put_snapshot.new.out.items
    (guest_written guest (state_in c.snapshot-snapshot.result) _ _ c.in_ok-out.ensures.items values.state (c.put_snapshot.ensures _ values.held.held))

pub returns-clause-size : goal.returns-clause-size
returns-clause-size g c =
    let guest = c.args.guest.now.guest in
    let values = c.snapshot-snapshot.ensures in
    not_longer (length guest.board.shared.bytes) (state_of guest) c.put_snapshot.new.out.items
    (guest_written guest (state_in c.snapshot-snapshot.result) _ _ c.in_ok-out.ensures.items values.state (c.put_snapshot.ensures _ values.held.held))

pub returns-clause-told : goal.returns-clause-told
returns-clause-told g c =
    let guest = c.args.guest.now.guest in
    let values = c.snapshot-snapshot.ensures in
    has_spelling guest c.put_snapshot.new.out.items
    (guest_written guest (state_in c.snapshot-snapshot.result) _ _ c.in_ok-out.ensures.items values.state (c.put_snapshot.ensures _ values.held.held))
    values.whole
