use Rattle.std.proofs.Common.{◌<◌, ◌≤◌, ℕ, length}
use Rattle.rvm_audit.specs.Parts.{taken}
use Rattle.rvm_audit.specs.Outlines.{entries_at, outlines_in}
use Rattle.rvm_audit.proofs.outline.unfinished.Given as goal

abbrev pub invariant-loop-host : goal.invariant-loop-host
invariant-loop-host l = (x : ℕ) → x < l.host → length (entries_at (outlines_in l.outlines) x) ≤ taken l.places x
