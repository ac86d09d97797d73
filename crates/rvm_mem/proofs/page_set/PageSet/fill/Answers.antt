use Rattle.std.proofs.Common.{length, replicate, true, sym, ap, ◌∙◌, arith}
use Rattle.rvm_mem.proofs.Rows.{length-flags, one_row_more}
use Rattle.rvm_mem.proofs.Filled.{full_counted, full_flags, full_row}
use Rattle.rvm_mem.proofs.page_set.PageSet.fill.Goals as goal

pub loop-i-preserved : goal.loop-i-preserved
loop-i-preserved c =
    one_row_more (full_row c.self.inside.pages) c.self.inside.rows.items c.loop-i.rows.items c.loop-i.i c.full_row.result c.loop-i.invariant (omega arith) c.full_row.ensures

pub invariant_of-self : goal.invariant_of-self
invariant_of-self c =
    let full = c.loop-i.invariant in
    full_counted c.self.inside.pages c.loop-i.rows.items (omega (arith, full.size, c.self.invariant.are.size)) c.self.invariant.are.few (λ r inside. full.are r (omega (arith, full.size)))

pub returns : goal.returns
returns c =
    let full = c.loop-i.invariant in
    full_flags c.self.inside.pages c.loop-i.rows.items (omega (arith, full.size, c.self.invariant.are.size)) (λ r inside. full.are r (omega (arith, full.size)))
    ∙ ap (λ n. replicate n true) (sym (length-flags c.self.inside.pages c.self.inside.rows.items) ∙ ap length c.self.view_is)
