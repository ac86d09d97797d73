use Rattle.rvm_debug.proofs.Running.{appends_more}
use Rattle.rvm_debug.proofs.answers.write_four.Goals as goal

pub returns : goal.returns
returns g c =
    appends_more _ _ _ _ _
    (appends_more _ _ _ _ _
    (appends_more _ _ _ _ _ c.in_ok-write_two.ensures c.in_ok-write.ensures.bytes)
    c.in_ok-write_two-2.ensures)
    c.in_ok-writeln.ensures.bytes
