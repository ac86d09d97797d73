-- Why a world was not made, in the list of all refusals.
use Rattle.rvm_refusal.specs.declared.refusal.Refusal.{Refusal}
use Rattle.rvm_refusal.specs.declared.refusal.Refusal.TheVariants as refusal
use Rattle.rvm_core.specs.declared.error.WorldError.{WorldError}
use Rattle.rvm_core.specs.declared.error.WorldError.TheVariants as world

-- the refusal of the same name in that list
abbrev pub refusal_of_world : WorldError → Refusal
refusal_of_world world.BadSize = refusal.BadSize
refusal_of_world world.OutOfMemory = refusal.OutOfMemory
