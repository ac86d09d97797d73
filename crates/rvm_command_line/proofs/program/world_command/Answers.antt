use Rattle.rvm_command_line.proofs.program.world_command.Goals as goal

pub returns : goal.returns
returns c =
    λ made is. c.with_arg.ensures _ _ (c.with_arg-command.ensures _ _ (c.guest_command.ensures _ is)
    c.hosts_option.ensures.rule) c.stream_option.ensures.rule
