use Rattle.rvm_command_line.proofs.program.addresses_command.Goals as goal

pub returns : goal.returns
returns c =
    λ made is. c.with_arg.ensures _ _ (c.with_arg-command-3.ensures _ _ (c.with_arg-command-2.ensures _ _
    (c.with_arg-command.ensures _ _ is c.needed_option.ensures.rule) c.option.ensures.rule)
    c.needed_option-2.ensures.rule) c.option-2.ensures.rule
