use Rattle.rvm_command_line.proofs.program.watch_command.Goals as goal

pub returns : goal.returns
returns c =
    λ made is. c.trace_command.ensures _ (c.with_arg.ensures _ _ is c.stop_at_fault_flag.ensures.rule)
