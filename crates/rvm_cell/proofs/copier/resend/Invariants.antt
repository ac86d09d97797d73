use Rattle.std.proofs.Common.{◌≡◌, ◌<◌, true}
use Rattle.std.specs.Prelude.{IsSomeAnd}
use Rattle.rvm_cell.specs.Copiers.{is_given}
use Rattle.rvm_cell.specs.Endings.{tells_left}
use Rattle.rvm_cell.proofs.copier.resend.Given as goal

abbrev pub invariant-loop-try : goal.invariant-loop-try
invariant-loop-try g l = record {
  same : l.copying ≡ record l.fn.copying { last = l.copying.last; refused = l.copying.refused };
  given : IsSomeAnd l.copying.last (λ x. is_given x ≡ true);
  left : 0 < l._try → IsSomeAnd l.copying.last (λ x. tells_left x ≡ true);
}
