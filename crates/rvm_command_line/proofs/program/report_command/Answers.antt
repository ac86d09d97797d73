use Rattle.rvm_command_line.proofs.program.report_command.Goals as goal

pub returns : goal.returns
returns c =
    λ made is. c.with_arg.ensures _ _ (c.profile_command.ensures _ (c.with_arg-command-2.ensures _ _
    (c.with_arg-command.ensures _ _ is c.signature_option.ensures.rule) c.coverage_option.ensures.rule))
    c.save_option.ensures.rule
