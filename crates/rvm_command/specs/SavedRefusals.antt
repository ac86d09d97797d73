-- Why a guest was not saved, and why bytes are no saved guest, in the list of all refusals.
use Rattle.rvm_refusal.specs.declared.refusal.Refusal.{Refusal}
use Rattle.rvm_refusal.specs.declared.refusal.Refusal.TheVariants as refusal
use Rattle.rvm_command.specs.declared.saved_fault.RestoreFault.{RestoreFault}
use Rattle.rvm_command.specs.declared.saved_fault.RestoreFault.TheVariants as restore
use Rattle.rvm_command.specs.declared.saved_fault.SaveFault.{SaveFault}
use Rattle.rvm_command.specs.declared.saved_fault.SaveFault.TheVariants as save

-- the refusal for a guest that was not saved
abbrev pub save_refusal : SaveFault → Refusal
save_refusal save.OutOfMemory = refusal.OutOfMemory
save_refusal save.LinkFault = refusal.LinkFault

-- the refusal for bytes that are no saved guest
abbrev pub restore_refusal : RestoreFault → Refusal
restore_refusal restore.OutOfMemory = refusal.OutOfMemory
restore_refusal restore.BadFrame = refusal.BadFrame
restore_refusal restore.TooLong = refusal.TooLong
restore_refusal restore.Truncated = refusal.Truncated
