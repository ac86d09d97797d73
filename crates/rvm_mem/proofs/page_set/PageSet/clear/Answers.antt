use Rattle.std.proofs.Common.{◌≡◌, length, replicate, false, sym, ap, ◌∙◌, arith, subst}
use Rattle.rvm_mem.specs.Rows.{AreCounted, flags}
use Rattle.rvm_mem.proofs.Rows.{length-flags}
use Rattle.rvm_mem.proofs.Filled.{zeros_counted, flags_of_zeros}
use Rattle.rvm_mem.proofs.page_set.PageSet.clear.Goals as goal

pub invariant_of-self : goal.invariant_of-self
invariant_of-self c =
    let rows_are : c.fill.new.self.items ≡ replicate (length c.self.inside.rows.items) 0 = c.fill.ensures.items (λ y is. is) ∙ ap (λ n. replicate n 0) (omega arith) in
    subst (AreCounted c.self.inside.pages 0) (sym rows_are) (zeros_counted c.self.inside.pages (length c.self.inside.rows.items) c.self.invariant.are.size c.self.invariant.are.few)

pub returns : goal.returns
returns c =
    let rows_are : c.fill.new.self.items ≡ replicate (length c.self.inside.rows.items) 0 = c.fill.ensures.items (λ y is. is) ∙ ap (λ n. replicate n 0) (omega arith) in
    ap (flags c.self.inside.pages) rows_are ∙ flags_of_zeros c.self.inside.pages (length c.self.inside.rows.items)
    ∙ ap (λ n. replicate n false) (sym (length-flags c.self.inside.pages c.self.inside.rows.items) ∙ ap length c.self.view_is)
