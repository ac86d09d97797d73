use Rattle.std.proofs.Common.{◌≡◌, ◌≤◌, suc, vec_capacity}
use Rattle.rvm_protocol.specs.Pages.{listed}
use Rattle.rvm_command.proofs.save.numbers.Given as goal

-- the numbers so far
abbrev pub invariant-loop-number : goal.invariant-loop-number
invariant-loop-number l = (l.numbers.items ≡ listed suc 0 l.number) × (l.pages ≤ vec_capacity l.numbers)
