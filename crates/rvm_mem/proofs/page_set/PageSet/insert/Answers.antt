use Rattle.std.proofs.Common.{true, set, ap, sym, ◌∙◌, arith}
use Rattle.rvm_mem.proofs.Changed.{Read, page_inside, row_inside, flag_stays, flags_changed, inserted, inserted_counted, few_counted}
use Rattle.rvm_mem.proofs.page_set.PageSet.insert.Goals.{After-has_bit}
use Rattle.rvm_mem.proofs.page_set.PageSet.insert.Goals as goal

pub index-row-requires : goal.index-row-requires
index-row-requires c =
    let inside = row_inside _ _ c.args.page c.self.invariant.are (page_inside _ _ c.args.self.now c.args.page c.self.view_is c.requires) in
    omega arith

pub index_mut-requires : goal.index_mut-requires
index_mut-requires c =
    let inside = row_inside _ _ c.args.page c.self.invariant.are (page_inside _ _ c.args.self.now c.args.page c.self.view_is c.requires) in
    omega arith

-- the row of the page
read : (c : After-has_bit) → Read c.self.inside.pages c.args.page c.index-row.result.now c.self.inside.rows.items
read c = record { are = c.self.invariant.are; inside = page_inside _ _ c.args.self.now c.args.page c.self.view_is c.requires; is = c.index-row.ensures }

pub returns-then-has_bit : goal.returns-then-has_bit
returns-then-has_bit c =
    flag_stays _ c.args.page c.index-row.result.now true _ (read (goal.at.returns-then-has_bit c).After-has_bit) (sym c.has_bit.ensures ∙ c.if-has_bit.true)
    ∙ ap (λ pages. set pages c.args.page true) c.self.view_is

pub overflow_add-self : goal.overflow_add-self
overflow_add-self c = omega (arith, few_counted _ _ _ c.self.invariant, c.self.invariant.are.few)

pub invariant_of-self-2 : goal.invariant_of-self-2
invariant_of-self-2 c =
    inserted_counted _ c.args.page c.index-row.result.now _ _ (read (goal.at.invariant_of-self-2 c).After-has_bit) c.self.invariant.counted (sym c.has_bit.ensures ∙ c.if-has_bit.false)

pub returns : goal.returns
returns c =
    let r = read (goal.at.returns c).After-has_bit in
    flags_changed _ c.args.page true _ _ r.inside (inserted _ c.args.page c.index-row.result.now _ r) ∙ ap (λ pages. set pages c.args.page true) c.self.view_is
