use Rattle.std.proofs.Common.{◌≡◌, true, take}
use Rattle.rvm_asm.specs.Images.{pieces_of}
use Rattle.rvm_elf.specs.Load.{pieces_fit}
use Rattle.rvm_files.proofs.image_parts.outside_segment.Given as goal

-- the segments so far fit
abbrev pub invariant-loop-index : goal.invariant-loop-index
invariant-loop-index l = pieces_fit (take l.index (pieces_of l.segments)) l.ram_size ≡ true
