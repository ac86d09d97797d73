use Rattle.std.proofs.Common.{◌≡◌, ◌+◌, ◌*◌, get_or, Some, ap, ◌∙◌, arith}
use Rattle.std.specs.Int.{trailing_zeros}
use mir.Syntax.{w64}
use Rattle.rvm_mem.specs.Pages.{first}
use Rattle.rvm_mem.proofs.Lowest.{first_in_row, first_in_none}
use Rattle.rvm_mem.proofs.page_set.PageSet.first.Goals.{After-row_at-row}
use Rattle.rvm_mem.proofs.page_set.PageSet.first.Goals as goal

-- the row that is read
read : (c : After-row_at-row) → c.row_at-row.result ≡ get_or c.self.inside.rows.items c.loop-i.i 0
read c = c.row_at-row.ensures ∙ ap (λ rows. get_or rows c.loop-i.i 0) c.deref.ensures.value

pub returns-then-row-ne0 : goal.returns-then-row-ne0
returns-then-row-ne0 c =
    let row = read (goal.at.returns-then-row-ne0 c).After-row_at-row in
    ap (λ r. Some (64 * c.loop-i.i + trailing_zeros w64 r)) row
    ∙ first_in_row c.self.inside.pages c.self.inside.rows.items c.loop-i.i c.self.invariant.are (omega arith) c.loop-i.invariant (omega arith) (omega (arith, c.row_at-row.type_inv))
    ∙ ap first c.self.view_is

pub returns : goal.returns
returns c =
    first_in_none c.self.inside.pages c.self.inside.rows.items c.self.invariant.are (λ i inside. c.loop-i.invariant i (omega arith)) ∙ ap first c.self.view_is
