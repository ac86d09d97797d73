use Rattle.std.proofs.Common.{inr}
use Rattle.rvm_recorder.specs.Replay.{IsReplay}
use Rattle.rvm_move.specs.Runs.{IsEndRun}
use Rattle.rvm_move.specs.Ended.{AreLeft, IsFailureOf, IsMoved, IsToldOf}
use Rattle.rvm_move.proofs.Failed.{failed_of, not_moved}
use Rattle.rvm_move.proofs.MovesTold.{left, moved, moved_told}
use Rattle.rvm_move.proofs.Untold.{end_of, untold_move}
use Rattle.rvm_move.proofs.move_command.move_command.Goals as goal

pub returns-clause-moved : goal.returns-clause-moved
returns-clause-moved g c =
    let before = g.E.Write.contents c.args.errors.now in
    let after = g.E.Write.contents c.tell_end.new.errors in
    let output_before = g.O.Write.contents c.args.output.now in
    let output_after = g.O.Write.contents c.move_image-moved.new.output in
    moved_told c.tell_end.result c.move_image-moved.result
    (λ m. AreLeft c.args.arguments.now c.args.image.now m.ends m.a.fault m.b.fault m.a.recorded.journal m.b.recorded.journal)
    (λ m. IsEndRun m.ends m.a.fault m.b.fault m.a.recorded.journal.entries m.b.recorded.journal.entries output_before output_after
    c.args.arguments.now.guest.harts c.args.arguments.now.steps)
    (λ s m. IsToldOf c.args.arguments.now.verdict s m.ends m.a.fault m.b.fault m.a.recorded.journal m.b.recorded.journal before after)
    (λ s. IsMoved c.args.arguments.now c.args.image.now s before after output_before output_after)
    (λ s m. moved c.args.arguments.now c.args.image.now s m.ends m.a.fault m.b.fault m.a.recorded.journal m.b.recorded.journal before after output_before output_after)
    (left c.move_image-moved.result c.args.arguments.now c.args.image.now (λ m. m.ends) (λ m. m.a.fault) (λ m. m.b.fault)
    (λ m. m.a.recorded.journal) (λ m. m.b.recorded.journal) c.move_image-moved.ensures.opened c.move_image-moved.ensures.a c.move_image-moved.ensures.b)
    c.move_image-moved.ensures.run c.tell_end.ensures.told

pub returns-clause-failed : goal.returns-clause-failed
returns-clause-failed g c =
    let before = g.E.Write.contents c.args.errors.now in
    let after = g.E.Write.contents c.tell_end.new.errors in
    not_moved c.tell_end.result c.move_image-moved.result c.args.arguments.now c.args.image.now before after
    (λ m. AreLeft c.args.arguments.now c.args.image.now m.ends m.a.fault m.b.fault m.a.recorded.journal m.b.recorded.journal)
    (λ m. IsFailureOf m.ends m.a.fault m.b.fault m.a.recorded.journal m.b.recorded.journal before after)
    (λ m. failed_of c.args.arguments.now c.args.image.now m.ends m.a.fault m.b.fault m.a.recorded.journal m.b.recorded.journal before after)
    (left c.move_image-moved.result c.args.arguments.now c.args.image.now (λ m. m.ends) (λ m. m.a.fault) (λ m. m.b.fault)
    (λ m. m.a.recorded.journal) (λ m. m.b.recorded.journal) c.move_image-moved.ensures.opened c.move_image-moved.ensures.a c.move_image-moved.ensures.b)
    c.move_image-moved.ensures.refused c.tell_end.ensures.refused c.tell_end.ensures.failed

pub returns-clause-untold : goal.returns-clause-untold
returns-clause-untold g c =
    let output_before = g.O.Write.contents c.args.output.now in
    let output_after = g.O.Write.contents c.move_image-moved.new.output in
    untold_move c.tell_end.result c.move_image-moved.result c.args.arguments.now c.args.image.now output_before output_after
    (λ m. AreLeft c.args.arguments.now c.args.image.now m.ends m.a.fault m.b.fault m.a.recorded.journal m.b.recorded.journal)
    (λ m. IsEndRun m.ends m.a.fault m.b.fault m.a.recorded.journal.entries m.b.recorded.journal.entries output_before output_after
    c.args.arguments.now.guest.harts c.args.arguments.now.steps)
    (λ m. IsReplay m.a.recorded.journal.opening m.a.recorded.journal.entries
    × IsReplay m.b.recorded.journal.opening m.b.recorded.journal.entries)
    (λ m s before after. IsToldOf c.args.arguments.now.verdict s m.ends m.a.fault m.b.fault m.a.recorded.journal m.b.recorded.journal before after)
    (λ m before after. IsFailureOf m.ends m.a.fault m.b.fault m.a.recorded.journal m.b.recorded.journal before after)
    (λ m replays. end_of c.args.arguments.now.verdict m.ends m.a.fault m.b.fault m.a.recorded.journal m.b.recorded.journal replays.0 replays.1)
    (λ m s before after. moved c.args.arguments.now c.args.image.now s m.ends m.a.fault m.b.fault m.a.recorded.journal m.b.recorded.journal before after output_before output_after)
    (λ m before after begun failed. inr (failed_of c.args.arguments.now c.args.image.now m.ends m.a.fault m.b.fault m.a.recorded.journal m.b.recorded.journal before after begun failed))
    (left c.move_image-moved.result c.args.arguments.now c.args.image.now (λ m. m.ends) (λ m. m.a.fault) (λ m. m.b.fault)
    (λ m. m.a.recorded.journal) (λ m. m.b.recorded.journal) c.move_image-moved.ensures.opened c.move_image-moved.ensures.a c.move_image-moved.ensures.b)
    c.move_image-moved.ensures.run
    c.tell_end.ensures.replays c.move_image-moved.ensures.refused
