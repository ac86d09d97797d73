use Rattle.std.proofs.Common.{◌≡◌, replicate, sym, ap, ◌∙◌, arith, subst}
use Rattle.rvm_mem.specs.Rows.{AreCounted, flags}
use Rattle.rvm_mem.proofs.Filled.{zeros_counted, flags_of_zeros}
use Rattle.rvm_mem.proofs.page_set.PageSet.new.Goals.{In_ok-rows}
use Rattle.rvm_mem.proofs.page_set.PageSet.new.Goals as goal

rows_are : (c : In_ok-rows) → c.in_ok-rows.rows.items ≡ replicate c.div_ceil.result 0
rows_are c = c.in_ok-rows.ensures.items_if_clones_equal (λ y is. is)

pub invariant_of-result : goal.invariant_of-result
invariant_of-result c =
    subst (AreCounted c.args.pages 0) (sym (rows_are c)) (zeros_counted c.args.pages c.div_ceil.result (c.div_ceil.ensures ∙ (omega arith)) c.requires)

pub returns : goal.returns
returns c = ap (flags c.args.pages) (rows_are c) ∙ flags_of_zeros c.args.pages c.div_ceil.result
