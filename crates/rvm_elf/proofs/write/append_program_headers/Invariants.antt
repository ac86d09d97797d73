use Rattle.std.proofs.Common.{◌≡◌, ◌+◌, ◌*◌, ◌^◌, ◌<◌, ◌≤◌, ◌++◌, true, drop, length, vec_len, vec_capacity}
use Rattle.rvm_asm.specs.Images.{pieces_of}
use Rattle.rvm_elf.specs.Spelling.{all_bytes, are_small, program_headers}
use Rattle.rvm_elf.proofs.write.append_program_headers.Given as goal

-- the headers so far, and those of what is left, for which there is room
abbrev pub invariant-loop-segment : goal.invariant-loop-segment
invariant-loop-segment l = record {
  items : l.file.items ++ program_headers l.offset (pieces_of (drop l.segment-index l.segments)) ≡ l.fn.file.items ++ program_headers l.first (pieces_of l.segments);
  len : vec_len l.file ≡ vec_len l.fn.file + 32 * l.segment-index;
  capacity : vec_capacity l.fn.file ≤ vec_capacity l.file;
  small : are_small (pieces_of (drop l.segment-index l.segments)) ≡ true;
  reach : l.offset + length (all_bytes (pieces_of (drop l.segment-index l.segments))) < 2 ^ 32;
}
