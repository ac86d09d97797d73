use Rattle.std.proofs.Common.{◌≡◌, ◌+◌, ◌-◌, ◌*◌, Ok}
use Rattle.rvm_elf.specs.File.{headers_checked}
use Rattle.rvm_files.proofs.headers.first_header_fault.Given as goal

-- the headers so far have no fault, and what is left decides
abbrev pub invariant-loop-index : goal.invariant-loop-index
invariant-loop-index l =
    (headers_checked l.index l.first l.file ≡ Ok tt)
    × (headers_checked (l.count - l.index) (l.first + 32 * l.index) l.file ≡ headers_checked l.count l.first l.file)
