use Rattle.std.proofs.Common.{◌≡◌, ◌≤◌, ◌%◌, length, true, ◌-◌}
use Rattle.rvm_hart.proofs.hart.Hart.rows_straight.Given as goal
use Rattle.rvm_hart.specs.Machine.{machine}
use Rattle.rvm_hart.specs.Straight.{at_pc, based, went}

abbrev pub invariant-loop-left : goal.invariant-loop-left
invariant-loop-left g l =
    (l.at % 4 ≡ 0)
    × (l.word ≡ 0)
    × (l.self.csrs ≡ l.initial.self.csrs)
    × (l.bus.shared.devices ≡ l.initial.bus.shared.devices)
    × (length l.bus.shared.reservations ≡ length l.initial.bus.shared.reservations)
    × (l.left ≤ l.count)
    × (record { machine = machine (at_pc (based l.at) l.self) l.bus; dirty = l.bus.dirty; plain = true }
    ≡ went l.watched l.marks (l.count - l.left) (machine l.initial.self l.initial.bus) l.initial.bus.dirty)

abbrev pub decreases-loop-left : goal.decreases-loop-left
decreases-loop-left g l = l.left
