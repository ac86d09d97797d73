use Rattle.std.proofs.Common.{◌≡◌, ◌+◌, ◌≤◌, length}
use Rattle.rvm_debug.specs.Words.{lines}
use Rattle.rvm_command.specs.SymbolLines.{refused_from, refused_line}
use Rattle.rvm_command.proofs.symbols.refused_line.Given as goal

-- no line so far is refused
abbrev pub invariant-loop-rest : goal.invariant-loop-rest
invariant-loop-rest l =
    (l.number + length l.rest ≤ length l.file)
    × (refused_from (l.number + 1) l.lowest (lines l.rest) ≡ refused_line l.file)

abbrev pub decreases-loop-rest : goal.decreases-loop-rest
decreases-loop-rest l = length l.rest
