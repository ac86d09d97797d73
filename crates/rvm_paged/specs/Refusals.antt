-- Why a memory was not made, in the list of all refusals.
use Rattle.rvm_refusal.specs.declared.refusal.Refusal.{Refusal}
use Rattle.rvm_refusal.specs.declared.refusal.Refusal.TheVariants as refusal
use Rattle.rvm_paged.specs.declared.paged_ram.PagedError.{PagedError}
use Rattle.rvm_paged.specs.declared.paged_ram.PagedError.TheVariants as why

-- the refusal for a memory that was not made
abbrev pub refusal_of : PagedError → Refusal
refusal_of why.BadSize = refusal.BadSize
refusal_of why.OutOfMemory = refusal.OutOfMemory
