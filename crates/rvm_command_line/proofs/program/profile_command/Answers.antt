use Rattle.rvm_command_line.proofs.program.profile_command.Goals as goal

pub returns : goal.returns
returns c =
    λ made is. c.with_arg.ensures _ _ (c.with_arg-command.ensures _ _ is c.profile_option.ensures.rule)
    c.symbols_option.ensures.rule
