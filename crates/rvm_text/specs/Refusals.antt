-- Why a line has no tokens, in the list of all refusals.
use Rattle.rvm_refusal.specs.declared.refusal.Refusal.{Refusal}
use Rattle.rvm_refusal.specs.declared.refusal.Refusal.TheVariants as refusal
use Rattle.rvm_text.specs.declared.token.TextError.{TextError}
use Rattle.rvm_text.specs.declared.token.TextError.TheVariants as why

-- the refusal of a line; the number of the line is reported beside it
abbrev pub refusal_of : TextError → Refusal
refusal_of why.OutOfMemory = refusal.OutOfMemory
refusal_of (why.BadToken n) = refusal.BadToken
