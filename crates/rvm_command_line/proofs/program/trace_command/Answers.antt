use Rattle.rvm_command_line.proofs.program.trace_command.Goals as goal

pub returns : goal.returns
returns c =
    λ made is. c.with_arg.ensures _ _ (c.with_arg-command-2.ensures _ _ (c.with_arg-command.ensures _ _ is
    c.trace_option.ensures.rule) c.trace_from_option.ensures.rule) c.trace_to_option.ensures.rule
