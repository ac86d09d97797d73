use Rattle.std.proofs.Common.{◌≡◌, ◌≤◌, ◌-◌, length}
use Rattle.rvm_hart.proofs.hart.Hart.run.Given as goal
use Rattle.rvm_hart.specs.Machine.{machine}
use Rattle.rvm_hart.proofs.Running.{Gone}

abbrev pub invariant-loop-left : goal.invariant-loop-left
invariant-loop-left g l =
    record {
      left : l.left ≤ l.count;
      hart : l.self.csrs.hart ≡ l.initial.self.csrs.hart;
      reservations : length l.bus.shared.reservations ≡ length l.initial.bus.shared.reservations;
      devices : length l.bus.shared.devices.msip ≡ length l.initial.bus.shared.devices.msip;
      gone : Gone l.watched l.marks (l.count - l.left) (machine l.initial.self l.initial.bus) l.initial.bus.dirty (machine l.self l.bus) l.bus.dirty;
    }

abbrev pub decreases-loop-left : goal.decreases-loop-left
decreases-loop-left g l = l.left
