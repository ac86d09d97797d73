use Rattle.std.proofs.Common.{◌+◌, ◌*◌, ◌≤◌, length}
use Rattle.rvm_debug.specs.Words.{lines}
use Rattle.rvm_command.proofs.Sessions.{Lines}
use Rattle.rvm_command.proofs.extended_script.run_lines.Given as goal

-- the lines so far and those that are left are all
abbrev pub invariant-loop-rest : goal.invariant-loop-rest
invariant-loop-rest g l = record {
  count : l.number + length l.rest ≤ length l.script;
  few : l.turns ≤ 4294967296 * l.number;
  lines : Lines (lines l.script) (lines l.rest) (l.number + 1) l.turns l.fn.board l.board (g.W.Write.contents l.fn.writer) (g.W.Write.contents l.writer);
}

abbrev pub decreases-loop-rest : goal.decreases-loop-rest
decreases-loop-rest g l = length l.rest
