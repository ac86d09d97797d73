-- The refusal for a frame that was not sent.
use Rattle.rvm_link.specs.declared.error.SendError.{SendError}
use Rattle.rvm_link.specs.declared.error.SendError.TheVariants.{BadFrame, LinkFault, OutOfMemory}
use Rattle.rvm_refusal.specs.declared.refusal.Refusal.{Refusal}
use Rattle.rvm_refusal.specs.declared.refusal.Refusal.TheVariants as refusal

-- the refusal in the list of all that stands for each error
abbrev pub send_refusal : SendError → Refusal
send_refusal OutOfMemory = refusal.OutOfMemory
send_refusal LinkFault = refusal.LinkFault
send_refusal BadFrame = refusal.BadFrame
