use Rattle.std.proofs.Common.{◌≡◌, take, drop}
use Rattle.rvm_debug.specs.Words.{lines, lines_from}
use Rattle.rvm_debug.proofs.script.split_line.Given as goal

-- the bytes so far are of one line
abbrev pub invariant-loop-at : goal.invariant-loop-at
invariant-loop-at l = lines_from (drop l.at l.bytes) (take l.at l.bytes) ≡ lines l.bytes
