use Rattle.std.proofs.Common.{◌≡◌, drop}
use Rattle.rvm_journal.specs.Numbers.{long_after}
use Rattle.rvm_journal.proofs.numbers.long_in.Given as goal

-- the digits so far and those that are left spell what all do
abbrev pub invariant-loop-digit : goal.invariant-loop-digit
invariant-loop-digit l = long_after l.number (drop l.digit-index l.word) ≡ long_after 0 l.word
