use Rattle.std.proofs.Common.{◌≡◌, length}
use Rattle.rvm_command.specs.SymbolLines.{symbols_of}
use Rattle.rvm_command.proofs.symbols.first_symbol.Given as goal

-- the lines so far told no symbol
abbrev pub invariant-loop-rest : goal.invariant-loop-rest
invariant-loop-rest l = symbols_of l.rest ≡ symbols_of l.file

abbrev pub decreases-loop-rest : goal.decreases-loop-rest
decreases-loop-rest l = length l.rest
