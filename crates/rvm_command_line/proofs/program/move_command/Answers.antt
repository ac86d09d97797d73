use Rattle.rvm_command_line.proofs.program.move_command.Goals as goal

pub returns : goal.returns
returns c =
    c.judged_command.ensures _ (c.with_arg-command.ensures _ _ (c.moving_command.ensures _ c.new_command-command.ensures)
    c.bandwidth_option.ensures.rule)
