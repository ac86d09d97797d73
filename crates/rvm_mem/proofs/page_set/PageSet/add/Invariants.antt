use Rattle.rvm_mem.proofs.Joined.{Joined}
use Rattle.rvm_mem.proofs.page_set.PageSet.add.Given as goal

abbrev pub invariant-loop-i : goal.invariant-loop-i
invariant-loop-i l = Joined l.i l.initial.rows.items l.other-inside.rows.items l.rows.items
