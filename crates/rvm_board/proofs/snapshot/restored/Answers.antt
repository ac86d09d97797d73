use Rattle.std.proofs.Common.{ap}
use Rattle.rvm_board.specs.Guest.{GuestState}
use Rattle.rvm_board.specs.Snapshot.{state_in}
use Rattle.rvm_board.proofs.Restoring.{all_restored}
use Rattle.rvm_board.proofs.snapshot.restored.Goals as goal

pub returns-clause-guest : goal.returns-clause-guest
returns-clause-guest g c =
    all_restored c.args.board.plain (state_in c.args.snapshot.now) c.as_slice.result.now c.as_slice-2.result.now c.as_slice-3.result.now c.as_slice-4.result.now
    c.new-guest.result.guest c.restore_harts.new.self.guest c.restore_devices.new.self.guest c.restore_breakpoints.new.self.guest
    c.requires.count c.as_slice.ensures.value c.as_slice-2.ensures.value c.as_slice-3.ensures.value c.as_slice-4.ensures.value c.new-guest.ensures.guest
    (ap (λ (x : GuestState). x.guest) c.restore_harts.ensures)
    (ap (λ (x : GuestState). x.guest) c.restore_devices.ensures)
    (ap (λ (x : GuestState). x.guest) c.restore_breakpoints.ensures)
