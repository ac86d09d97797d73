use Rattle.std.proofs.Common.{◌≡◌, drop}
use Rattle.rvm_asm.specs.Images.{pieces_of}
use Rattle.rvm_elf.specs.Spelling.{are_small}
use Rattle.rvm_elf.proofs.write.are_small.Given as goal

-- what is left decides
abbrev pub invariant-loop-segment : goal.invariant-loop-segment
invariant-loop-segment l = are_small (pieces_of (drop l.segment-index l.segments)) ≡ are_small (pieces_of l.segments)
