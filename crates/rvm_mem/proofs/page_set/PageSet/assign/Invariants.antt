use Rattle.rvm_mem.proofs.Rows.{RowsTo}
use Rattle.rvm_mem.proofs.Taken.{row_of}
use Rattle.rvm_mem.proofs.page_set.PageSet.assign.Given as goal

abbrev pub invariant-loop-i : goal.invariant-loop-i
invariant-loop-i l = RowsTo l.i (row_of l.flags) l.initial.rows.items l.rows.items
