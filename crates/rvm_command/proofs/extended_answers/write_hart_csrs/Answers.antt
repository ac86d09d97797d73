use Rattle.rvm_debug.proofs.Running.{appends_more}
use Rattle.rvm_command.proofs.extended_answers.write_hart_csrs.Goals as goal

pub returns : goal.returns
returns g c =
    appends_more _ _ _ _ _
    (appends_more _ _ _ _ _
    (appends_more _ _ _ _ _ c.in_ok-write_setup.ensures c.in_ok-write_handling.ensures)
    c.in_ok-write_counters.ensures)
    c.in_ok-write_number.ensures
