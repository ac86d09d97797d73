use Rattle.rvm_command_line.proofs.program.replay_options.Goals as goal

pub returns : goal.returns
returns c =
    λ made is. c.with_arg.ensures _ _ (c.with_arg-command-2.ensures _ _ (c.with_arg-command.ensures _ _ is
    c.until_option.ensures.rule) c.replayed_turns_option.ensures.rule) c.session_option.ensures.rule
