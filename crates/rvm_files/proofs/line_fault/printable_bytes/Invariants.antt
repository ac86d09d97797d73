use Rattle.std.proofs.Common.{◌≡◌, map, take}
use Rattle.arrayvec.specs.ArrayVec.{array_vec_len}
use Rattle.rvm_files.specs.LineFaults.{printable}
use Rattle.rvm_files.proofs.line_fault.printable_bytes.Given as goal

-- the bytes so far are shown
abbrev pub invariant-loop-index : goal.invariant-loop-index
invariant-loop-index l = (l.text.items ≡ map printable (take l.index l.bytes)) × (array_vec_len l.text ≡ l.index)
