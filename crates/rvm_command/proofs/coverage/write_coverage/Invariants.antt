use Rattle.std.proofs.Common.{◌≡◌, ◌++◌, List, ℕ, drop}
use Rattle.std.specs.Io.KnownBytes.{Appends}
use Rattle.rvm_asm.specs.Images.{pieces_of}
use Rattle.rvm_command.specs.Counting.{number_at}
use Rattle.rvm_command.specs.Coverage.{counted_listing}
use Rattle.rvm_command.proofs.coverage.write_coverage.Given as goal

-- the lines written so far, and those of the segments that are left, are all
abbrev pub invariant-loop-segment : goal.invariant-loop-segment
invariant-loop-segment g l =
    (done : List ℕ) × Appends (g.O.Write.contents l.fn.output) (g.O.Write.contents l.output) done
    × (done ++ counted_listing (number_at l.fn.counts) (pieces_of (drop l.segment-index l.segments))
    ≡ counted_listing (number_at l.fn.counts) (pieces_of l.fn.segments))
