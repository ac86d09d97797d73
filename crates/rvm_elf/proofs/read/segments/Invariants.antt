use Rattle.std.proofs.Common.{◌≡◌, ◌+◌, ◌-◌, ◌*◌, ◌++◌, Ok}
use Rattle.rvm_asm.specs.Images.{pieces_of}
use Rattle.rvm_elf.specs.File.{headers_checked, pieces_from}
use Rattle.rvm_elf.proofs.read.segments.Given as goal

-- the pieces so far and what is left, which has no fault
abbrev pub invariant-loop-i : goal.invariant-loop-i
invariant-loop-i l = record {
  pieces : pieces_of l.segments.items ++ pieces_from (l.count - l.i) (l.first + 32 * l.i) l.file ≡ pieces_from l.count l.first l.file;
  checked : headers_checked (l.count - l.i) (l.first + 32 * l.i) l.file ≡ Ok tt;
}
