use Rattle.std.proofs.Common.{subst}
use Rattle.std.specs.Prelude.{IfOk}
use Rattle.rvm_move.specs.Hosts.{IsFirstEnd}
use Rattle.rvm_move.specs.Runs.{IsEndRun}
use Rattle.rvm_move.proofs.move_command.move_image.Goals as goal

pub returns-in-Ok-clause-a : goal.returns-in-Ok-clause-a
returns-in-Ok-clause-a g c =
    subst (λ plan. IfOk c.move_recorded.result (λ m. IsFirstEnd plan.policy m.ends m.a.fault m.a.recorded.journal.entries))
    c.plan_of-plan.ensures c.move_recorded.ensures.a

pub returns-in-Ok-clause-run : goal.returns-in-Ok-clause-run
returns-in-Ok-clause-run g c =
    subst (λ plan. IfOk c.move_recorded.result (λ m. IsEndRun m.ends m.a.fault m.b.fault m.a.recorded.journal.entries
    m.b.recorded.journal.entries (g.O.Write.contents c.args.output.now) (g.O.Write.contents c.move_recorded.new.output)
    plan.harts plan.steps)) c.plan_of-plan.ensures c.move_recorded.ensures.run
