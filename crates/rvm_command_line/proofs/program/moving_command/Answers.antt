use Rattle.rvm_command_line.proofs.program.moving_command.Goals as goal

pub returns : goal.returns
returns c =
    λ made is. c.with_arg.ensures _ _ (c.policy_command.ensures _ (c.with_arg-command.ensures _ _
    (c.guest_command.ensures _ is) c.number.ensures.rule)) c.number-2.ensures.rule
