use Rattle.rvm_command_line.proofs.program.run_command.Goals as goal

pub returns : goal.returns
returns c =
    c.journal_command.ensures _ (c.order_command.ensures _ (c.report_command.ensures _ (c.watch_command-run.ensures _
    (c.status_command.ensures _ (c.turns_command.ensures _ c.new_command-run.ensures)))))
