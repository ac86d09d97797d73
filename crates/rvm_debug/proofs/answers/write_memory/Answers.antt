use Rattle.rvm_debug.proofs.Writing.{rows_more}
use Rattle.rvm_debug.proofs.answers.write_memory.Goals as goal

pub loop-row-preserved : goal.loop-row-preserved
loop-row-preserved g c = rows_more _ _ _ _ _ _ c.loop-row.invariant c.in_ok-write_row.ensures
