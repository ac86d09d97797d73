use Rattle.std.proofs.Common.{◌≡◌, ◌<◌, true}
use Rattle.std.specs.Prelude.{IsSomeAnd}
use Rattle.rvm_cell.specs.Copiers.{copies_on}
use Rattle.rvm_cell.proofs.copier.copy_until.Given as goal

abbrev pub invariant-loop-copy : goal.invariant-loop-copy
invariant-loop-copy g l = record {
  same : l.copying ≡ record l.fn.copying { last = l.copying.last; refused = l.copying.refused };
  few : l.pauses < 1000;
  on : IsSomeAnd l.copying.last (λ x. copies_on x ≡ true);
}
