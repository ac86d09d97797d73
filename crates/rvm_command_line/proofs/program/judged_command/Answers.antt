use Rattle.rvm_command_line.proofs.program.judged_command.Goals as goal

pub returns : goal.returns
returns c =
    λ made is. c.with_arg.ensures _ _ is c.verdict_flag.ensures.rule
