use Rattle.std.proofs.Common.{length}
use Rattle.rvm_host_command.specs.Told.{IsLastInput}
use Rattle.rvm_host_command.proofs.answers.type_in.Given as goal

abbrev pub invariant-loop-byte : goal.invariant-loop-byte
invariant-loop-byte g l = IsLastInput g.L.Hosting.gave l.last

abbrev pub decreases-loop-byte : goal.decreases-loop-byte
decreases-loop-byte g l = length l.left
