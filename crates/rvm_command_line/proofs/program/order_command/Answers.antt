use Rattle.rvm_command_line.proofs.program.order_command.Goals as goal

pub returns : goal.returns
returns c =
    λ made is. c.with_arg.ensures _ _ (c.with_arg-command.ensures _ _ is c.seed_option.ensures.rule)
    c.orders_option.ensures.rule
