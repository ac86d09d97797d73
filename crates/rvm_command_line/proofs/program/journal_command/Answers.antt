use Rattle.rvm_command_line.proofs.program.journal_command.Goals as goal

pub returns : goal.returns
returns c =
    λ made is. c.with_arg.ensures _ _ is c.option.ensures.rule
