use Rattle.rvm_command_line.proofs.program.tell_command.Goals as goal

pub returns : goal.returns
returns c =
    c.with_arg.ensures _ _ (c.with_arg-command.ensures _ _ c.new_command-command.ensures c.needed.ensures.rule)
    c.allowed.ensures.rule
