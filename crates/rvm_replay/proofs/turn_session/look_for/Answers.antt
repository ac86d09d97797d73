use Rattle.std.proofs.Common.{subst}
use Rattle.rvm_replay.proofs.TurnEnds.{no_memory, no_memory_untold, no_order_looked, no_order_untold}
use Rattle.rvm_replay.proofs.UntoldReplays.{on_error}
use Rattle.rvm_replay.specs.Findings.{IsFinding}
use Rattle.rvm_replay.proofs.turn_session.look_for.Goals as goal

pub returns-in-Ok-InOrder-clause-looked : goal.returns-in-Ok-InOrder-clause-looked
returns-in-Ok-InOrder-clause-looked g c = c.look_in.ensures.looked

pub returns-in-Ok-InOrder-clause-untold : goal.returns-in-Ok-InOrder-clause-untold
returns-in-Ok-InOrder-clause-untold g c = c.look_in.ensures.untold

pub returns-in_ok-status-in-Ok-Unordered-clause-looked : goal.returns-in_ok-status-in-Ok-Unordered-clause-looked
returns-in_ok-status-in-Ok-Unordered-clause-looked g c image are =
    no_order_looked c.args.files.now image c.args.all.now are c.args.turn c.in_ok-status-in-Ok-Unordered.status
    (g.E.Write.contents c.args.errors.now) (g.E.Write.contents c.tell_unordered.new.errors)
    (c.in_ok-status-in-Ok-Unordered.ensures.status c.args.all.now (subst (IsFinding c.args.files.now c.args.all.now) c.in-Ok-Unordered.field-0-is c.in-Ok-Unordered.ensures.found))

pub returns-in_err-status-in-Ok-Unordered-clause-untold : goal.returns-in_err-status-in-Ok-Unordered-clause-untold
returns-in_err-status-in-Ok-Unordered-clause-untold g c image are =
    on_error c.from_residual.result _
    (no_order_untold c.args.files.now image c.args.all.now are c.args.turn (c.in_err-status-in-Ok-Unordered.ensures.untold c.args.all.now (subst (IsFinding c.args.files.now c.args.all.now) c.in-Ok-Unordered.field-0-is c.in-Ok-Unordered.ensures.found)))

pub returns-in_ok-tell_refusal-in-Err-clause-looked : goal.returns-in_ok-tell_refusal-in-Err-clause-looked
returns-in_ok-tell_refusal-in-Err-clause-looked g c image are out =
    no_memory c.args.files.now image c.args.all.now are c.args.turn out (g.E.Write.contents c.args.errors.now)
    (g.E.Write.contents c.tell_refusal.new.errors) c.in_ok-tell_refusal-in-Err.ensures

pub returns-in_err-tell_refusal-in-Err-clause-untold : goal.returns-in_err-tell_refusal-in-Err-clause-untold
returns-in_err-tell_refusal-in-Err-clause-untold g c image are =
    on_error c.from_residual-in_err-tell_refusal-in-Err.result _
    (no_memory_untold c.args.files.now image c.args.all.now are c.args.turn)
