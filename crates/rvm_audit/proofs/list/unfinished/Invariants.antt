use Rattle.std.proofs.Common.{◌<◌, ◌≤◌, ℕ, length}
use Rattle.rvm_audit.specs.Audits.{entries_of, histories_of}
use Rattle.rvm_audit.specs.Parts.{taken}
use Rattle.rvm_audit.proofs.list.unfinished.Given as goal

abbrev pub invariant-loop-host : goal.invariant-loop-host
invariant-loop-host g l =
    (x : ℕ) → x < l.host → length (entries_of (histories_of l.journals) x) ≤ taken l.places x
