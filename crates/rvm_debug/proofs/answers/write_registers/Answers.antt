use Rattle.rvm_debug.proofs.Writing.{fours_more}
use Rattle.rvm_debug.proofs.answers.write_registers.Goals as goal

pub loop-row-preserved : goal.loop-row-preserved
loop-row-preserved g c = fours_more _ _ _ _ _ c.loop-row.invariant c.in_ok-write_four.ensures
