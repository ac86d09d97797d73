use Rattle.rvm_command_line.proofs.program.explained_command.Goals as goal

pub returns : goal.returns
returns c =
    λ made is. c.with_arg.ensures _ _ is c.explain_flag.ensures.rule
