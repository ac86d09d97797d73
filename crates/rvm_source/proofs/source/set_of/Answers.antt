use Rattle.std.proofs.Common.{◌<◌, ◌∙◌, ◌+◌, sym, subst, arith}
use Rattle.rvm_source.proofs.Sets.{Gathers, gathers_none, gathers_one, gathers_other, gathers_all}
use Rattle.rvm_source.proofs.source.set_of.Goals as goal
use Rattle.rvm_source.proofs.source.set_of.Goals.{then-from-pages, else-from-pages}

pub loop-number-init : goal.loop-number-init
loop-number-init c = gathers_none c.args.numbers.now c.args.pages c.in_ok-set.set c.in_ok-set.ensures

pub insert-requires : goal.insert-requires
insert-requires c =
    let size = c.loop-number.invariant.size in
    let same = c.from-then-from-pages.ensures ∙ sym c.from.ensures in
    let inside = c.if-from-pages.true in
    omega (arith, size, same, inside)

pub loop-number-preserved : goal.loop-number-preserved
loop-number-preserved c =
    let numbers = c.args.numbers.now in
    let pages = c.args.pages in
    let i = c.loop-number.number-index in
    let s = c.loop-number.set in
    elim c.if-from-pages.branch [
      | then-from-pages w ↦
          let same = c.from.ensures ∙ sym w.from-then-from-pages.ensures in
          subst (Gathers numbers pages (i + 1)) (sym (w.set-is ∙ w.insert.ensures))
          (gathers_one numbers pages i w.from-then-from-pages.result s c.loop-number.invariant c.loop-number-test.true w.from-then-from-pages.ensures (subst (λ x. x < pages) same w.if-from-pages.true))
      | else-from-pages w ↦
          subst (Gathers numbers pages (i + 1)) (sym w.set-is)
          (gathers_other numbers pages i c.from.result s c.loop-number.invariant c.loop-number-test.true c.from.ensures w.if-from-pages.false)
    ]

pub returns-clause-set : goal.returns-clause-set
returns-clause-set c = gathers_all c.args.numbers.now c.args.pages c.loop-number.number-index c.loop-number.set c.loop-number.invariant c.loop-number-test.false

pub returns-clause-size : goal.returns-clause-size
returns-clause-size c = c.loop-number.invariant.size
