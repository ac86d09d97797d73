use Rattle.std.proofs.Common.{◌≡◌, ◌++◌, List, ℕ, drop}
use Rattle.std.specs.Io.KnownBytes.{Appends}
use Rattle.rvm_asm.specs.Images.{pieces_of}
use Rattle.rvm_command.specs.Command.{listing}
use Rattle.rvm_command.proofs.dis_command.list.Given as goal

-- the lines written so far, and those of the segments that are left, are all
abbrev pub invariant-loop-segment : goal.invariant-loop-segment
invariant-loop-segment g l =
    (done : List ℕ) × Appends (g.O.Write.contents l.fn.output) (g.O.Write.contents l.output) done
    × (done ++ listing (pieces_of (drop l.segment-index l.segments)) ≡ listing (pieces_of l.fn.segments))
