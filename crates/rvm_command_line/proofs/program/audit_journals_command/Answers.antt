use Rattle.rvm_command_line.proofs.program.audit_journals_command.Goals as goal

pub returns : goal.returns
returns c =
    c.with_arg.ensures _ _ (c.with_arg-command-3.ensures _ _ (c.with_arg-command-2.ensures _ _ (c.with_arg-command.ensures _ _
    c.new_command-command.ensures c.journals_argument.ensures.rule) c.journals_image_option.ensures.rule)
    c.order_flag.ensures.rule) c.chart_option.ensures.rule
