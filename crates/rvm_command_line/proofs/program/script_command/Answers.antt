use Rattle.rvm_command_line.proofs.program.script_command.Goals as goal

pub returns : goal.returns
returns c =
    c.with_arg.ensures _ _ (c.world_command.ensures _ c.new_command-script.ensures) c.needed.ensures.rule
