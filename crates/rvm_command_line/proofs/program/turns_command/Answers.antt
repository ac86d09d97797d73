use Rattle.rvm_command_line.proofs.program.turns_command.Goals as goal

pub returns : goal.returns
returns c =
    λ made is. c.with_arg.ensures _ _ (c.with_arg-command.ensures _ _ (c.guest_command.ensures _ is)
    c.steps_option.ensures.rule) c.input_option.ensures.rule
