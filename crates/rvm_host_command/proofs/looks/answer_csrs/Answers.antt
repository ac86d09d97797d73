use Rattle.rvm_host_command.proofs.Looking.{csrs_told}
use Rattle.rvm_host_command.proofs.looks.answer_csrs.Goals as goal

pub returns-in_ok-write_csrs-in-Ok : goal.returns-in_ok-write_csrs-in-Ok
returns-in_ok-write_csrs-in-Ok g c =
    csrs_told g.L.Hosting.showed c.args.hart c.in-Ok.snapshot c.outcome_at.result _ _ c.in-Ok.ensures c.in_ok-write_csrs-in-Ok.ensures c.outcome_at.ensures
