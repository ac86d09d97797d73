use Rattle.std.proofs.Common.{sym, subst, arith}
use Rattle.rvm_mem.proofs.Ranges.{MarkedTo, more_marked}
use Rattle.rvm_mem.proofs.page_flags.PageFlags.insert_range.Goals as goal

pub loop-done-preserved : goal.loop-done-preserved
loop-done-preserved c =
    let next = c.min-done.result in
    record {
      marked = subst (MarkedTo c.args.at next c.args.self.now) (sym c.insert.ensures)
          (more_marked c.args.at c.loop-done.done next c.args.self.now c.loop-done.self c.loop-done.invariant.marked (omega (arith, c.min-done.ensures)) (omega (arith, c.min-done.ensures)));
      within = omega (arith, c.min-done.ensures);
    }
