use Rattle.std.proofs.Common.{◌≡◌, get_or, sym, ap, ◌∙◌, arith, subst}
use Rattle.std.proofs.lemmas.List.{get_or_default}
use Rattle.rvm_mem.specs.Pages.{count, union}
use Rattle.rvm_mem.specs.Rows.{flags, AreRows}
use Rattle.rvm_mem.proofs.Joined.{joined_with, all_joined, joined_rows, joined_flags, same_pages, same_rows}
use Rattle.rvm_mem.proofs.page_set.PageSet.add.Goals as goal

pub index-requires : goal.index-requires
index-requires c =
    let pages = same_rows c.self.inside.pages c.other.inside.pages c.self.inside.rows.items c.other.inside.rows.items c.args.self.now c.args.other.now c.self.view_is c.other.view_is c.requires c.self.invariant.are c.other.invariant.are in
    omega arith

pub loop-i-preserved : goal.loop-i-preserved
loop-i-preserved c =
    let others = same_rows c.self.inside.pages c.other.inside.pages c.self.inside.rows.items c.other.inside.rows.items c.args.self.now c.args.other.now c.self.view_is c.other.view_is c.requires c.self.invariant.are c.other.invariant.are in
    let size = c.loop-i.invariant.size in
    let row : c.index_mut.result.now ≡ get_or c.loop-i.rows.items c.loop-i.i 0 = c.index_mut.ensures.value ∙ get_or_default c.loop-i.rows.items c.loop-i.i c.index_mut.result.now 0 (omega arith) in
    let other : c.index.result.now ≡ get_or c.other.inside.rows.items c.loop-i.i 0 = c.index.ensures ∙ get_or_default c.other.inside.rows.items c.loop-i.i c.index.result.now 0 (omega arith) in
    joined_with c.loop-i.i c.self.inside.rows.items c.other.inside.rows.items c.loop-i.rows.items c.index_mut.result.now c.index.result.now c.loop-i.invariant (omega arith) row other

pub invariant_of-self : goal.invariant_of-self
invariant_of-self c =
    let pages = same_pages c.self.inside.pages c.other.inside.pages c.self.inside.rows.items c.other.inside.rows.items c.args.self.now c.args.other.now c.self.view_is c.other.view_is c.requires in
    let joined = all_joined c.loop-i.i c.self.inside.rows.items c.other.inside.rows.items c.loop-i.rows.items c.loop-i.invariant (omega arith) in
    let are = joined_rows c.self.inside.pages c.self.inside.rows.items c.other.inside.rows.items c.loop-i.rows.items joined c.self.invariant.are (subst (λ n. AreRows n c.other.inside.rows.items) pages c.other.invariant.are) in
    record {
      are = are;
      counted = c.ones-self-inside.ensures c.self.inside.pages (subst (AreRows c.self.inside.pages) (sym c.deref.ensures.value) are) ∙ ap (λ rows. count (flags c.self.inside.pages rows)) c.deref.ensures.value;
    }

pub returns : goal.returns
returns c =
    let pages = same_pages c.self.inside.pages c.other.inside.pages c.self.inside.rows.items c.other.inside.rows.items c.args.self.now c.args.other.now c.self.view_is c.other.view_is c.requires in
    let others = same_rows c.self.inside.pages c.other.inside.pages c.self.inside.rows.items c.other.inside.rows.items c.args.self.now c.args.other.now c.self.view_is c.other.view_is c.requires c.self.invariant.are c.other.invariant.are in
    let joined = all_joined c.loop-i.i c.self.inside.rows.items c.other.inside.rows.items c.loop-i.rows.items c.loop-i.invariant (omega arith) in
    joined_flags c.self.inside.pages c.self.inside.rows.items c.other.inside.rows.items c.loop-i.rows.items joined others
    ∙ ap (λ s. union s (flags c.self.inside.pages c.other.inside.rows.items)) c.self.view_is
    ∙ ap (union c.args.self.now) (ap (λ n. flags n c.other.inside.rows.items) (sym pages) ∙ c.other.view_is)
