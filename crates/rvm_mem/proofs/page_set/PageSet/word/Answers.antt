use Rattle.std.proofs.Common.{◌≡◌, ◌+◌, ◌/◌, ◌^◌, get_or, ap, ◌∙◌, arith}
use Rattle.rvm_mem.specs.Pages.{bits, window}
use Rattle.rvm_mem.proofs.Rows.{row_is}
use Rattle.rvm_mem.proofs.Windows.{two_rows}
use Rattle.rvm_mem.proofs.page_set.PageSet.word.Goals as goal

pub returns-then-place-eq0 : goal.returns-then-place-eq0
returns-then-place-eq0 c =
    let row : c.row_at.result ≡ get_or c.self.inside.rows.items (c.args.first_page / 64) 0 = c.row_at.ensures ∙ ap (λ rows. get_or rows (c.args.first_page / 64) 0) c.deref.ensures.value in
    ap (λ k. c.row_at.result / 2 ^ k) c.if-place-eq0.true ∙ (let e : c.row_at.result / 2 ^ 0 ≡ c.row_at.result = omega arith in e)
    ∙ row ∙ row_is c.self.inside.pages c.self.inside.rows.items c.self.invariant.are c.args.first_page c.if-place-eq0.true (omega (arith, c.row_at.type_inv))
    ∙ ap (λ pages. bits (window c.args.first_page pages)) c.self.view_is

pub returns : goal.returns
returns c =
    two_rows c.self.inside.pages c.self.inside.rows.items c.self.invariant.are c.args.first_page c.row_at.result c.row_at-2.result
    (c.row_at.ensures ∙ ap (λ rows. get_or rows (c.args.first_page / 64) 0) c.deref.ensures.value)
    (c.row_at-2.ensures ∙ ap (λ rows. get_or rows (c.args.first_page / 64 + 1) 0) c.deref-2.ensures.value)
    c.row_at.type_inv
    ∙ ap (λ pages. bits (window c.args.first_page pages)) c.self.view_is
