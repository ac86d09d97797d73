use Rattle.std.proofs.Common.{inl, inr, subst}
use Rattle.std.specs.Prelude.{IfOk}
use Rattle.rvm_move.specs.Hosts.{IsFirstEnd}
use Rattle.rvm_move.specs.Runs.{IsEndRun}
use Rattle.rvm_move.specs.Ended.{AreLeft, IsFailureOf, IsMoved, IsToldOf}
use Rattle.rvm_move.proofs.Failed.{failed_of, for_memory, not_moved}
use Rattle.rvm_move.proofs.MovesTold.{if_ok, left, moved, moved_told, opened}
use Rattle.rvm_move.proofs.Untold as untold
use Rattle.rvm_recorder.specs.Replay.{IsReplay}
use Rattle.rvm_move.proofs.move_over.move_over.Goals as goal

pub returns-in-Ok-clause-moved : goal.returns-in-Ok-clause-moved
returns-in-Ok-clause-moved g c =
    let before = g.E.Write.contents c.args.errors.now in
    let after = g.E.Write.contents c.tell_end.new.errors in
    let output_before = g.O.Write.contents c.args.output.now in
    let output_after = g.O.Write.contents c.move_recorded-moved.new.output in
    let begun = if_ok c.move_recorded-moved.result _ _ (λ m same. opened c.args.arguments.now c.args.image.now
    c.in-Ok.recorded.0 c.in-Ok.recorded.1 m.a.recorded.journal.opening m.b.recorded.journal.opening
    c.in-Ok.ensures.loadable c.in-Ok.ensures.valid c.in-Ok.ensures.first c.in-Ok.ensures.second same.0 same.1) c.move_recorded-moved.ensures.opening in
    let run = subst (λ plan. IfOk c.move_recorded-moved.result (λ m. IsEndRun m.ends m.a.fault m.b.fault m.a.recorded.journal.entries
    m.b.recorded.journal.entries output_before output_after plan.harts plan.steps)) c.plan_of-plan.ensures c.move_recorded-moved.ensures.run in
    let end_a = subst (λ plan. IfOk c.move_recorded-moved.result (λ m. IsFirstEnd plan.policy m.ends m.a.fault m.a.recorded.journal.entries))
    c.plan_of-plan.ensures c.move_recorded-moved.ensures.a in
    moved_told c.tell_end.result c.move_recorded-moved.result
    (λ m. AreLeft c.args.arguments.now c.args.image.now m.ends m.a.fault m.b.fault m.a.recorded.journal m.b.recorded.journal)
    (λ m. IsEndRun m.ends m.a.fault m.b.fault m.a.recorded.journal.entries m.b.recorded.journal.entries output_before output_after
    c.args.arguments.now.guest.harts c.args.arguments.now.steps)
    (λ s m. IsToldOf c.args.arguments.now.verdict s m.ends m.a.fault m.b.fault m.a.recorded.journal m.b.recorded.journal before after)
    (λ s. IsMoved c.args.arguments.now c.args.image.now s before after output_before output_after)
    (λ s m. moved c.args.arguments.now c.args.image.now s m.ends m.a.fault m.b.fault m.a.recorded.journal m.b.recorded.journal before after output_before output_after)
    (left c.move_recorded-moved.result c.args.arguments.now c.args.image.now (λ m. m.ends) (λ m. m.a.fault) (λ m. m.b.fault)
    (λ m. m.a.recorded.journal) (λ m. m.b.recorded.journal) begun end_a c.move_recorded-moved.ensures.b)
    run c.tell_end.ensures.told

pub returns-in-Ok-clause-failed : goal.returns-in-Ok-clause-failed
returns-in-Ok-clause-failed g c =
    let before = g.E.Write.contents c.args.errors.now in
    let after = g.E.Write.contents c.tell_end.new.errors in
    let begun = if_ok c.move_recorded-moved.result _ _ (λ m same. opened c.args.arguments.now c.args.image.now
    c.in-Ok.recorded.0 c.in-Ok.recorded.1 m.a.recorded.journal.opening m.b.recorded.journal.opening
    c.in-Ok.ensures.loadable c.in-Ok.ensures.valid c.in-Ok.ensures.first c.in-Ok.ensures.second same.0 same.1) c.move_recorded-moved.ensures.opening in
    let end_a = subst (λ plan. IfOk c.move_recorded-moved.result (λ m. IsFirstEnd plan.policy m.ends m.a.fault m.a.recorded.journal.entries))
    c.plan_of-plan.ensures c.move_recorded-moved.ensures.a in
    not_moved c.tell_end.result c.move_recorded-moved.result c.args.arguments.now c.args.image.now before after
    (λ m. AreLeft c.args.arguments.now c.args.image.now m.ends m.a.fault m.b.fault m.a.recorded.journal m.b.recorded.journal)
    (λ m. IsFailureOf m.ends m.a.fault m.b.fault m.a.recorded.journal m.b.recorded.journal before after)
    (λ m. failed_of c.args.arguments.now c.args.image.now m.ends m.a.fault m.b.fault m.a.recorded.journal m.b.recorded.journal before after)
    (left c.move_recorded-moved.result c.args.arguments.now c.args.image.now (λ m. m.ends) (λ m. m.a.fault) (λ m. m.b.fault)
    (λ m. m.a.recorded.journal) (λ m. m.b.recorded.journal) begun end_a c.move_recorded-moved.ensures.b)
    (for_memory c.move_recorded-moved.result c.args.arguments.now c.args.image.now c.move_recorded-moved.ensures.refused)
    c.tell_end.ensures.refused c.tell_end.ensures.failed

pub returns-in-Ok-clause-untold : goal.returns-in-Ok-clause-untold
returns-in-Ok-clause-untold g c =
    let output_before = g.O.Write.contents c.args.output.now in
    let output_after = g.O.Write.contents c.move_recorded-moved.new.output in
    let begun = if_ok c.move_recorded-moved.result _ _ (λ m same. opened c.args.arguments.now c.args.image.now
    c.in-Ok.recorded.0 c.in-Ok.recorded.1 m.a.recorded.journal.opening m.b.recorded.journal.opening
    c.in-Ok.ensures.loadable c.in-Ok.ensures.valid c.in-Ok.ensures.first c.in-Ok.ensures.second same.0 same.1) c.move_recorded-moved.ensures.opening in
    let run = subst (λ plan. IfOk c.move_recorded-moved.result (λ m. IsEndRun m.ends m.a.fault m.b.fault m.a.recorded.journal.entries
    m.b.recorded.journal.entries output_before output_after plan.harts plan.steps)) c.plan_of-plan.ensures c.move_recorded-moved.ensures.run in
    let end_a = subst (λ plan. IfOk c.move_recorded-moved.result (λ m. IsFirstEnd plan.policy m.ends m.a.fault m.a.recorded.journal.entries))
    c.plan_of-plan.ensures c.move_recorded-moved.ensures.a in
    untold.untold_move c.tell_end.result c.move_recorded-moved.result c.args.arguments.now c.args.image.now output_before output_after
    (λ m. AreLeft c.args.arguments.now c.args.image.now m.ends m.a.fault m.b.fault m.a.recorded.journal m.b.recorded.journal)
    (λ m. IsEndRun m.ends m.a.fault m.b.fault m.a.recorded.journal.entries m.b.recorded.journal.entries output_before output_after
    c.args.arguments.now.guest.harts c.args.arguments.now.steps)
    (λ m. IsReplay m.a.recorded.journal.opening m.a.recorded.journal.entries
    × IsReplay m.b.recorded.journal.opening m.b.recorded.journal.entries)
    (λ m s before after. IsToldOf c.args.arguments.now.verdict s m.ends m.a.fault m.b.fault m.a.recorded.journal m.b.recorded.journal before after)
    (λ m before after. IsFailureOf m.ends m.a.fault m.b.fault m.a.recorded.journal m.b.recorded.journal before after)
    (λ m replays. untold.end_of c.args.arguments.now.verdict m.ends m.a.fault m.b.fault m.a.recorded.journal m.b.recorded.journal replays.0 replays.1)
    (λ m s before after. moved c.args.arguments.now c.args.image.now s m.ends m.a.fault m.b.fault m.a.recorded.journal m.b.recorded.journal before after output_before output_after)
    (λ m before after begun failed. inr (failed_of c.args.arguments.now c.args.image.now m.ends m.a.fault m.b.fault m.a.recorded.journal m.b.recorded.journal before after begun failed))
    (left c.move_recorded-moved.result c.args.arguments.now c.args.image.now (λ m. m.ends) (λ m. m.a.fault) (λ m. m.b.fault)
    (λ m. m.a.recorded.journal) (λ m. m.b.recorded.journal) begun end_a c.move_recorded-moved.ensures.b)
    run c.tell_end.ensures.replays
    (for_memory c.move_recorded-moved.result c.args.arguments.now c.args.image.now c.move_recorded-moved.ensures.refused)

pub returns-in-Err-clause-untold : goal.returns-in-Err-clause-untold
returns-in-Err-clause-untold g c =
    untold.not_moved c.tell.result c.args.arguments.now c.args.image.now c.in-Err.refused (g.O.Write.contents c.args.output.now)
    (g.O.Write.contents c.args.output.now) (inl c.in-Err.ensures.refused)
