use Rattle.std.proofs.Common.{◌≡◌, map, take}
use Rattle.rvm_audit.specs.Audits.{histories_of}
use Rattle.rvm_replay.proofs.audit.journals_of.Given as goal

-- the journals of the hosts so far
abbrev pub invariant-loop-host : goal.invariant-loop-host
invariant-loop-host g l = histories_of l.journals.items ≡ map (λ r. r.journal) (take l.host l.all)
