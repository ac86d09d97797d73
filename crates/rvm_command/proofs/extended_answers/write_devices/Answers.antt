use Rattle.rvm_board.specs.Snapshot.{state_in}
use Rattle.rvm_command.proofs.Showing.{devices_written}
use Rattle.rvm_command.proofs.extended_answers.write_devices.Goals as goal

pub returns : goal.returns
returns g c =
    devices_written (state_in c.args.snapshot.now) c.as_slice.result.now c.as_slice-2.result.now c.as_slice-3.result.now _ _ _ _ _ _ _
    c.as_slice.ensures.value c.as_slice-2.ensures.value c.as_slice-3.ensures.value
    c.in_ok-write_timer.ensures c.in_ok-write_harts.ensures c.in_ok-write_queue.ensures c.in_ok-write_queue-2.ensures
    c.in_ok-write_console.ensures c.in_ok-write_halted.ensures
