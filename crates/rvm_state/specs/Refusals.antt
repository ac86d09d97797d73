-- Why bytes made no guest, in the list of all refusals.
use Rattle.rvm_refusal.specs.declared.refusal.Refusal.{Refusal}
use Rattle.rvm_refusal.specs.declared.refusal.Refusal.TheVariants as refusal
use Rattle.rvm_state.specs.declared.fault.StateFault.{StateFault}
use Rattle.rvm_state.specs.declared.fault.StateFault.TheVariants as why

-- the refusal for bytes that made no guest
abbrev pub refusal_of : StateFault → Refusal
refusal_of why.BadState = refusal.BadState
refusal_of why.OutOfMemory = refusal.OutOfMemory
