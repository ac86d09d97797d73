use Rattle.std.proofs.Common.{◌∙◌, ap, sym, arith}
use Rattle.std.specs.Prelude.{None}
use Rattle.rvm_asm.proofs.Joined.{behind_none, counted_apart, counted_touching, few, many, pieces_behind}
use Rattle.rvm_asm.proofs.extents.are_many.Goals as goal
use Rattle.rvm_asm.proofs.extents.are_many.Goals.{then-is_apart+else-count-eq-MAX_SEGMENTS, else-is_apart}

pub loop-address-init : goal.loop-address-init
loop-address-init c = record {
  few = omega arith;
  sum = omega (arith, ap (pieces_behind None) (c.into_iter-address-iterator.ensures.into_iter_gives ∙ c.iter-address-items.ensures.rest));
}

pub returns-then-count-eq-MAX_SEGMENTS : goal.returns-then-count-eq-MAX_SEGMENTS
returns-then-count-eq-MAX_SEGMENTS c = λ bytes lines held.
    many bytes lines c.args.extents.now held (omega (arith, c.if-count-eq-MAX_SEGMENTS.true, counted_apart c.loop-address.count _ c.loop-address.before _ _ (c.in-Some.address.now, c.in-Some.extent.now) c.loop-address.invariant.sum c.in-Some.ensures.steps (sym c.is_apart.ensures ∙ c.if-is_apart.true)))

pub overflow_add-count : goal.overflow_add-count
overflow_add-count c = omega (arith, c.loop-address.invariant.few)

pub loop-address-preserved : goal.loop-address-preserved
loop-address-preserved c = elim c.if-is_apart.branch [
  | then-is_apart+else-count-eq-MAX_SEGMENTS w ↦ record {
    few = omega (arith, c.loop-address.invariant.few, w.if-count-eq-MAX_SEGMENTS.false, w.count-is);
    sum = omega (arith, w.count-is, counted_apart c.loop-address.count _ c.loop-address.before _ _ (c.in-Some.address.now, c.in-Some.extent.now) c.loop-address.invariant.sum c.in-Some.ensures.steps (sym c.is_apart.ensures ∙ w.if-is_apart.true));
  }
  | else-is_apart w ↦ record {
    few = omega (arith, c.loop-address.invariant.few, w.count-is);
    sum = omega (arith, w.count-is, counted_touching c.loop-address.count _ c.loop-address.before _ _ (c.in-Some.address.now, c.in-Some.extent.now) c.loop-address.invariant.sum c.in-Some.ensures.steps (sym c.is_apart.ensures ∙ w.if-is_apart.false));
  }
]

pub returns : goal.returns
returns c = λ bytes lines held. few bytes lines c.args.extents.now held (omega (arith, c.loop-address.invariant.few, c.loop-address.invariant.sum, behind_none c.loop-address.before _ c.in-None.ensures.steps.0))
