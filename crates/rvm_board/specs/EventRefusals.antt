-- The refusals of a board's events, in the list of all refusals.
use Rattle.rvm_refusal.specs.declared.refusal.Refusal.{Refusal}
use Rattle.rvm_refusal.specs.declared.refusal.Refusal.TheVariants as refusal
use Rattle.rvm_board.specs.declared.event.BoardRefusal.{BoardRefusal}
use Rattle.rvm_board.specs.declared.event.BoardRefusal.TheVariants as why

-- each refusal has the same name in the list of all
abbrev pub refusal_of : BoardRefusal → Refusal
refusal_of why.OutOfRange = refusal.OutOfRange
refusal_of why.InputFull = refusal.InputFull
refusal_of why.BadHart = refusal.BadHart
refusal_of why.TooManyBreaks = refusal.TooManyBreaks
