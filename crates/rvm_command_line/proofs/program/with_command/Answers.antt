use Rattle.rvm_command_line.proofs.program.with_command.Goals as goal

pub returns : goal.returns
returns c =
    λ whole part made more. c.with_subcommand.ensures _ _ made (c.explained_command.ensures _ more)
