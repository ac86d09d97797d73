use Rattle.std.proofs.Common.{◌≡◌, ◌++◌, ℕ, List, length}
use Rattle.std.specs.Io.KnownBytes.{Appends}
use Rattle.rvm_command.specs.Coverage.{counted_lines}
use Rattle.rvm_command.specs.Counting.{number_at}
use Rattle.rvm_command.proofs.coverage.write_words.Given as goal

-- the lines written so far, and those that are left, are all
abbrev pub invariant-loop-bytes : goal.invariant-loop-bytes
invariant-loop-bytes g l =
    (done : List ℕ) × Appends (g.O.Write.contents l.fn.output) (g.O.Write.contents l.output) done
    × (done ++ counted_lines (number_at l.fn.counts) l.address l.bytes ≡ counted_lines (number_at l.fn.counts) l.fn.address l.fn.bytes)

abbrev pub decreases-loop-bytes : goal.decreases-loop-bytes
decreases-loop-bytes g l = length l.bytes
