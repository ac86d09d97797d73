use Rattle.std.proofs.Common.{◌≡◌, ◌+◌, ◌≤◌, ◌++◌, drop, length, vec_len, vec_capacity}
use Rattle.rvm_asm.specs.Images.{pieces_of}
use Rattle.rvm_elf.specs.Spelling.{all_bytes}
use Rattle.rvm_elf.proofs.write.append_all_bytes.Given as goal

-- the bytes so far, and those of what is left, for which there is room
abbrev pub invariant-loop-segment : goal.invariant-loop-segment
invariant-loop-segment l = record {
  items : l.file.items ++ all_bytes (pieces_of (drop l.segment-index l.segments)) ≡ l.fn.file.items ++ all_bytes (pieces_of l.segments);
  room : vec_len l.file + length (all_bytes (pieces_of (drop l.segment-index l.segments))) ≤ vec_capacity l.file;
}
