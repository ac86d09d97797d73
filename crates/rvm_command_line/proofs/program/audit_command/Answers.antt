use Rattle.rvm_command_line.proofs.program.audit_command.Goals as goal

pub returns : goal.returns
returns c =
    c.moving_command.ensures _ c.new_command-audit.ensures
