use Rattle.std.proofs.Common.{◌≡◌, ◌++◌, List, ℕ, length}
use Rattle.std.specs.Io.KnownBytes.{Appends}
use Rattle.rvm_command.specs.Counting.{sum_between}
use Rattle.rvm_command.specs.Profile.{symbol_lines}
use Rattle.rvm_command.specs.SymbolLines.{symbols_of}
use Rattle.rvm_command.proofs.Profiling.{left_of}
use Rattle.rvm_command.proofs.profile.write_profile.Given as goal

-- the lines written so far, and those of the symbols that are left, are all
abbrev pub invariant-loop-open : goal.invariant-loop-open
invariant-loop-open g l =
    (done : List ℕ) × Appends (g.O.Write.contents l.fn.output) (g.O.Write.contents l.output) done
    × (done ++ symbol_lines (sum_between l.fn.counts) (left_of l.open l.symbols)
    ≡ symbol_lines (sum_between l.fn.counts) (symbols_of l.fn.file))

abbrev pub decreases-loop-open : goal.decreases-loop-open
decreases-loop-open g l = length (left_of l.open l.symbols)
