use Rattle.rvm_command_line.proofs.program.program.Goals as goal

pub returns : goal.returns
returns c =
    c.with_command.ensures _ _ (c.with_command-program-10.ensures _ _ (c.with_command-program-9.ensures _ _
    (c.with_command-program-8.ensures _ _ (c.with_command-program-7.ensures _ _ (c.with_command-program-6.ensures _
    _ (c.with_command-program-5.ensures _ _ (c.with_command-program-4.ensures _ _ (c.with_command-program-3.ensures
    _ _ (c.with_command-program-2.ensures _ _ (c.with_command-program.ensures _ _ c.bare_program.ensures
    c.run_command.ensures) c.asm_command.ensures) c.dis_command.ensures) c.debug_command.ensures)
    c.script_command.ensures) c.move_command.ensures) c.audit_command.ensures) c.host_command.ensures)
    c.tell_command.ensures) c.replay_command.ensures) c.audit_journals_command.ensures
