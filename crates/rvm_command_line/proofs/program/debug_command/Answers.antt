use Rattle.rvm_command_line.proofs.program.debug_command.Goals as goal

pub returns : goal.returns
returns c =
    c.with_arg.ensures _ _ (c.guest_command.ensures _ c.new_command-debug.ensures) c.flag.ensures.rule
