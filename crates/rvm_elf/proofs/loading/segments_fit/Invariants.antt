use Rattle.std.proofs.Common.{◌≡◌, drop}
use Rattle.rvm_asm.specs.Images.{pieces_of}
use Rattle.rvm_elf.specs.Load.{pieces_fit}
use Rattle.rvm_elf.proofs.loading.segments_fit.Given as goal

-- what is left decides
abbrev pub invariant-loop-segment : goal.invariant-loop-segment
invariant-loop-segment l = pieces_fit (pieces_of (drop l.segment-index l.segments)) l.ram_size ≡ pieces_fit (pieces_of l.segments) l.ram_size
