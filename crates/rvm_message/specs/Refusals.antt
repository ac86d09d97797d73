-- The refusals of a host in the list of all refusals.
use Rattle.rvm_refusal.specs.declared.refusal.Refusal.{Refusal}
use Rattle.rvm_refusal.specs.declared.refusal.Refusal.TheVariants as all
use Rattle.rvm_message.specs.declared.reply.HostRefusal.{HostRefusal}
use Rattle.rvm_message.specs.declared.reply.HostRefusal.TheVariants as refusal

-- the refusal of the same name in that list
abbrev pub numbered : HostRefusal → Refusal
numbered refusal.BadSize = all.BadSize
numbered refusal.BadState = all.BadState
numbered refusal.SeqSpent = all.SeqSpent
numbered refusal.NotHere = all.NotHere
numbered refusal.Paused = all.Paused
numbered refusal.Busy = all.Busy
numbered refusal.NoMove = all.NoMove
numbered refusal.EpochsSpent = all.EpochsSpent
numbered refusal.Ignored = all.Ignored
numbered refusal.NoFrame = all.NoFrame
numbered refusal.BadHost = all.BadHost
