use Rattle.rvm_guest.proofs.Staying.{HaveRegisters}
use Rattle.rvm_guest.proofs.valid.valid_guest.Given as goal

-- the harts so far
abbrev pub invariant-loop-part : goal.invariant-loop-part
invariant-loop-part g l = HaveRegisters l.part-index l.part-items
