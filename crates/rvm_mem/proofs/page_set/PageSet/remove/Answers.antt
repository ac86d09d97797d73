use Rattle.std.proofs.Common.{false, set, ap, sym, ◌∙◌, arith}
use Rattle.rvm_mem.proofs.Changed.{Read, page_inside, row_inside, flag_stays, flags_changed, removed, removed_counted, some_counted}
use Rattle.rvm_mem.proofs.page_set.PageSet.remove.Goals.{After-has_bit}
use Rattle.rvm_mem.proofs.page_set.PageSet.remove.Goals as goal

pub index-row-requires : goal.index-row-requires
index-row-requires c =
    let inside = row_inside _ _ c.args.page c.self.invariant.are (page_inside _ _ c.args.self.now c.args.page c.self.view_is c.requires) in
    omega arith

pub index_mut-requires : goal.index_mut-requires
index_mut-requires c =
    let inside = row_inside _ _ c.args.page c.self.invariant.are (page_inside _ _ c.args.self.now c.args.page c.self.view_is c.requires) in
    omega arith

-- the row of the page
read : (c : After-has_bit) → Read c.self.inside.pages c.args.page c.index-row.result.now c.self.inside.rows.items
read c = record { are = c.self.invariant.are; inside = page_inside _ _ c.args.self.now c.args.page c.self.view_is c.requires; is = c.index-row.ensures }

pub returns-then-not-has_bit : goal.returns-then-not-has_bit
returns-then-not-has_bit c =
    flag_stays _ c.args.page c.index-row.result.now false _ (read (goal.at.returns-then-not-has_bit c).After-has_bit) (sym c.has_bit.ensures ∙ c.if-not-has_bit.true)
    ∙ ap (λ pages. set pages c.args.page false) c.self.view_is

pub overflow_sub-self : goal.overflow_sub-self
overflow_sub-self c =
    some_counted _ c.args.page c.index-row.result.now _ _ (read (goal.at.overflow_sub-self c).After-has_bit) c.self.invariant.counted (sym c.has_bit.ensures ∙ c.if-not-has_bit.false)

pub invariant_of-self-2 : goal.invariant_of-self-2
invariant_of-self-2 c =
    removed_counted _ c.args.page c.index-row.result.now _ _ (read (goal.at.invariant_of-self-2 c).After-has_bit) c.self.invariant.counted (sym c.has_bit.ensures ∙ c.if-not-has_bit.false)

pub returns : goal.returns
returns c =
    let r = read (goal.at.returns c).After-has_bit in
    flags_changed _ c.args.page false _ _ r.inside (removed _ c.args.page c.index-row.result.now _ r) ∙ ap (λ pages. set pages c.args.page false) c.self.view_is
