use Rattle.std.proofs.Common.{◌≡◌, ◌/◌, ◌++◌, ℕ, List}
use Rattle.std.specs.Io.KnownBytes.{Appends}
use Rattle.rvm_command.specs.Reports.{word_rows}
use Rattle.rvm_command.proofs.report.write_signature.Given as goal

-- the guest is as it was, and the lines written so far and those that are left are all
abbrev pub invariant-loop-left : goal.invariant-loop-left
invariant-loop-left g l =
    (done : List ℕ) × (l.guest ≡ l.fn.guest) × Appends (g.W.Write.contents l.fn.writer) (g.W.Write.contents l.writer) done
    × (done ++ word_rows l.left l.address l.fn.guest.guest ≡ word_rows (l.fn.range.length / 4) l.fn.range.from l.fn.guest.guest)

abbrev pub decreases-loop-left : goal.decreases-loop-left
decreases-loop-left g l = l.left
