use Rattle.rvm_mem.proofs.Rows.{RowsTo}
use Rattle.rvm_mem.proofs.Filled.{full_row}
use Rattle.rvm_mem.proofs.page_set.PageSet.fill.Given as goal

abbrev pub invariant-loop-i : goal.invariant-loop-i
invariant-loop-i l = RowsTo l.i (full_row l.pages) l.initial.rows.items l.rows.items
