use Rattle.std.proofs.Common.{◌≡◌, drop, true, length}
use Rattle.rvm_asm.specs.Images.{pieces_of}
use Rattle.rvm_elf.specs.Load.{pieces_fit}
use Rattle.rvm_elf.specs.Placing.{with_ram, placed_all}
use Rattle.rvm_elf.proofs.loading.write_segments.Given as goal

-- only RAM has changed; with what is left, which fits, it is the whole
abbrev pub invariant-loop-segment : goal.invariant-loop-segment
invariant-loop-segment g l = record {
  board : l.board ≡ with_ram l.board.plain.shared.bytes l.fn.board;
  size : length l.board.plain.shared.bytes ≡ length l.fn.board.plain.shared.bytes;
  ram : placed_all (pieces_of (drop l.segment-index l.segments)) l.board.plain.shared.bytes ≡ placed_all (pieces_of l.segments) l.fn.board.plain.shared.bytes;
  fits : pieces_fit (pieces_of (drop l.segment-index l.segments)) (length l.fn.board.plain.shared.bytes) ≡ true;
}
