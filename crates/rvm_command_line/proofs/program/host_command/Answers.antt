use Rattle.rvm_command_line.proofs.program.host_command.Goals as goal

pub returns : goal.returns
returns c =
    c.judged_command.ensures _ (c.journal_command.ensures _ (c.hosting_command-host.ensures _
    (c.addresses_command.ensures _ (c.board_command-host.ensures _ (c.named_command.ensures _
    c.new_command-host.ensures)))))
