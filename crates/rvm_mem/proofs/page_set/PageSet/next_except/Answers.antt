use Rattle.std.proofs.Common.{◌≡◌, ◌/◌, ◌%◌, ap, ◌∙◌, arith, get_or}
use Rattle.rvm_mem.proofs.Lowest.{none_in_rest, rest_fits, some_in_rest}
use Rattle.rvm_mem.proofs.page_set.PageSet.next_except.Goals.{After-row_at-row}
use Rattle.rvm_mem.proofs.page_set.PageSet.next_except.Goals as goal

read : (c : After-row_at-row) → c.row_at-row.result ≡ get_or c.self.inside.rows.items (c.args.from / 64) 0
read c = c.row_at-row.ensures ∙ ap (λ rows. get_or rows (c.args.from / 64) 0) c.deref.ensures.value

pub returns-then-left-eq0 : goal.returns-then-left-eq0
returns-then-left-eq0 c =
    none_in_rest _ c.args.from c.row_at-row.result c.args.except _ c.args.self.now c.self.invariant.are (read (goal.at.returns-then-left-eq0 c).After-row_at-row) c.self.view_is (omega arith) c.if-left-eq0.true

pub returns : goal.returns
returns c =
    some_in_rest _ c.args.from c.row_at-row.result c.args.except _ c.args.self.now c.self.invariant.are (read (goal.at.returns c).After-row_at-row) c.self.view_is (omega arith) (omega arith)
    (rest_fits c.row_at-row.result c.args.except (c.args.from % 64) (omega (arith, c.row_at-row.type_inv)))
