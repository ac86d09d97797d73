use Rattle.rvm_command_line.proofs.program.guest_command.Goals as goal

pub returns : goal.returns
returns c =
    λ made is. c.board_command.ensures _ (c.with_arg.ensures _ _ is c.needed.ensures.rule)
