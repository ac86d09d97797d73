use Rattle.std.proofs.Common.{◌≡◌, ◌≤◌}
use Rattle.rvm_cell.proofs.copier.abort_without_memory.Given as goal

abbrev pub invariant-loop-try : goal.invariant-loop-try
invariant-loop-try g l = record {
  same : l.copying ≡ record l.fn.copying { last = l.copying.last; refused = l.copying.refused };
  tried : l._try ≤ l.copying.refused;
}
