use Rattle.std.proofs.Common.{◌≡◌, ◌+◌, ◌^◌, ◌≤◌, drop, length}
use Rattle.rvm_asm.specs.Images.{pieces_of}
use Rattle.rvm_elf.specs.Spelling.{all_bytes}
use Rattle.rvm_elf.proofs.write.count_bytes.Given as goal

-- the bytes so far, and those of what is left
abbrev pub invariant-loop-segment : goal.invariant-loop-segment
invariant-loop-segment l = record {
  sum : l.count + length (all_bytes (pieces_of (drop l.segment-index l.segments))) ≡ length (all_bytes (pieces_of l.segments));
  most : l.count ≤ 2 ^ 24;
}
