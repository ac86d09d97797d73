use Rattle.rvm_command_line.proofs.program.policy_command.Goals as goal

pub returns : goal.returns
returns c =
    λ made is. c.with_arg.ensures _ _ (c.with_arg-command-2.ensures _ _ (c.with_arg-command.ensures _ _ is
    c.number.ensures.rule) c.number-2.ensures.rule) c.number-3.ensures.rule
