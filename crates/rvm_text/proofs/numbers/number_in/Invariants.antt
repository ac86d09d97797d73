use Rattle.std.proofs.Common.{◌≡◌, drop}
use Rattle.rvm_text.specs.Numbers.{number_after}
use Rattle.rvm_text.proofs.numbers.number_in.Given as goal

-- the digits so far and those that are left spell what all do
abbrev pub invariant-loop-b : goal.invariant-loop-b
invariant-loop-b l = number_after l.radix l.number (drop l.b-index l.digits) ≡ number_after l.radix 0 l.digits
