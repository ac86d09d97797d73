use Rattle.rvm_command_line.proofs.program.hosting_command.Goals as goal

pub returns : goal.returns
returns c =
    λ made is. c.with_arg.ensures _ _ (c.with_arg-command-4.ensures _ _ (c.with_arg-command-3.ensures _ _
    (c.with_arg-command-2.ensures _ _ (c.with_arg-command.ensures _ _ is c.input_option.ensures.rule)
    c.patience_option.ensures.rule) c.rate_option.ensures.rule) c.bandwidth_option.ensures.rule)
    c.until_halt_flag.ensures.rule
