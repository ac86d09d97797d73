use Rattle.rvm_command_line.proofs.program.status_command.Goals as goal

pub returns : goal.returns
returns c =
    λ made is. c.with_arg.ensures _ _ (c.with_arg-command.ensures _ _ is c.verdict_flag.ensures.rule)
    c.exit_status_flag.ensures.rule
