use Rattle.std.proofs.Common.{◌≡◌, length, sym, ap, ◌∙◌, arith, subst}
use Rattle.rvm_mem.specs.Pages.{count}
use Rattle.rvm_mem.specs.Rows.{flags, AreRows}
use Rattle.rvm_mem.proofs.Rows.{length-flags, one_row_more}
use Rattle.rvm_mem.proofs.Taken.{Taken, all_taken, row_of}
use Rattle.rvm_mem.proofs.page_set.PageSet.assign.Goals.{After-loop-i}
use Rattle.rvm_mem.proofs.page_set.PageSet.assign.Goals as goal

pub loop-i-preserved : goal.loop-i-preserved
loop-i-preserved c =
    one_row_more (row_of c.args.flags.now) c.self.inside.rows.items c.loop-i.rows.items c.loop-i.i c.word_at.result c.loop-i.invariant (omega arith) c.word_at.ensures

-- the rows after the loop
taken : (c : After-loop-i) → Taken c.args.flags.now c.self.inside.pages c.loop-i.rows.items
taken c =
    let same : length c.args.flags.now ≡ c.self.inside.pages = c.requires ∙ sym (ap length c.self.view_is) ∙ length-flags c.self.inside.pages c.self.inside.rows.items in
    all_taken c.args.flags.now c.self.inside.pages c.loop-i.i c.self.inside.rows.items c.loop-i.rows.items same c.self.invariant.are c.loop-i.invariant (omega arith)

pub invariant_of-self : goal.invariant_of-self
invariant_of-self c =
    let are = (taken (goal.at.invariant_of-self c).After-loop-i).are in
    record {
      are = are;
      counted = c.ones-self-inside.ensures c.self.inside.pages (subst (AreRows c.self.inside.pages) (sym c.deref.ensures.value) are) ∙ ap (λ rows. count (flags c.self.inside.pages rows)) c.deref.ensures.value;
    }

pub returns : goal.returns
returns c = (taken (goal.at.returns c).After-loop-i).is
