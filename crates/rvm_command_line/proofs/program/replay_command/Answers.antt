use Rattle.rvm_command_line.proofs.program.replay_command.Goals as goal

pub returns : goal.returns
returns c =
    c.replay_options.ensures _ (c.with_arg-2.ensures _ _ (c.with_arg.ensures _ _ c.new_command-replay.ensures
    c.several-journal.ensures.rule) c.option-image.ensures.rule)
