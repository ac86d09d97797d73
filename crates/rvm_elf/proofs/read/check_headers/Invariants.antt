use Rattle.std.proofs.Common.{◌≡◌, ◌+◌, ◌-◌, ◌*◌}
use Rattle.rvm_elf.specs.File.{headers_checked}
use Rattle.rvm_elf.proofs.read.check_headers.Given as goal

-- what is left decides
abbrev pub invariant-loop-i : goal.invariant-loop-i
invariant-loop-i l = headers_checked (l.count - l.i) (l.first + 32 * l.i) l.file ≡ headers_checked l.count l.first l.file
