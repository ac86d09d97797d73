-- The faults of a line in the list of all refusals.
use Rattle.rvm_refusal.specs.declared.refusal.Refusal.{Refusal}
use Rattle.rvm_refusal.specs.declared.refusal.Refusal.TheVariants as refusal
use Rattle.rvm_asm.specs.declared.faults.Fault.{Fault}
use Rattle.rvm_asm.specs.declared.faults.Fault.TheVariants as line
use Rattle.rvm_asm.specs.declared.faults.LineError.{LineError}
use Rattle.rvm_asm.specs.declared.faults.LineError.TheVariants as error

-- each has the name that it has there
abbrev pub refusal_of_fault : Fault → Refusal
refusal_of_fault line.BadToken = refusal.BadToken
refusal_of_fault line.UnknownName = refusal.UnknownName
refusal_of_fault line.OutOfReach = refusal.OutOfReach
refusal_of_fault line.Defined = refusal.Defined
refusal_of_fault line.Overlap = refusal.Overlap

-- of a line without bytes
abbrev pub refusal_of_line : LineError → Refusal
refusal_of_line error.OutOfMemory = refusal.OutOfMemory
refusal_of_line (error.Faulty fault) = refusal_of_fault fault
