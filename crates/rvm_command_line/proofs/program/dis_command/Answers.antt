use Rattle.rvm_command_line.proofs.program.dis_command.Goals as goal

pub returns : goal.returns
returns c =
    c.guest_command.ensures _ c.new_command-dis.ensures
