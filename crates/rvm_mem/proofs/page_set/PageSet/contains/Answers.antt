use Rattle.std.proofs.Common.{get_or, false, ap, ◌∙◌, ◌/◌, ◌%◌}
use Rattle.rvm_mem.specs.Pages.{bit}
use Rattle.rvm_mem.specs.Rows.{flag}
use Rattle.rvm_mem.proofs.Rows.{flag_is}
use Rattle.rvm_mem.proofs.page_set.PageSet.contains.Goals as goal

pub returns : goal.returns
unfolding flag
returns c =
    c.has_bit.ensures
    ∙ ap (bit (c.args.page % 64)) (c.row_at-row.ensures ∙ ap (λ rows. get_or rows (c.args.page / 64) 0) c.deref.ensures.value)
    ∙ flag_is c.self.inside.pages c.self.inside.rows.items c.self.invariant.are c.args.page
    ∙ ap (λ pages. get_or pages c.args.page false) c.self.view_is
