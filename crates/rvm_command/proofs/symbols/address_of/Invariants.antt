use Rattle.std.proofs.Common.{◌≡◌, drop}
use Rattle.rvm_text.specs.Numbers.{number_after}
use Rattle.rvm_command.specs.Symbols.{address_of}
use Rattle.rvm_command.proofs.symbols.address_of.Given as goal

-- the digits so far and those that are left spell the address
abbrev pub invariant-loop-b : goal.invariant-loop-b
invariant-loop-b l = number_after 16 l.address (drop l.b-index l.word) ≡ address_of l.word
