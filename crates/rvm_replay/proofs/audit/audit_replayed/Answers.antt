use Rattle.std.proofs.Common.{refl, subst}
use Rattle.std.specs.Io.Buffered.{writer_contents}
use Rattle.rvm_replay.proofs.AuditEnds.{memory_untold, no_order_found, no_order_untold, not_zero, out_of_memory}
use Rattle.rvm_replay.proofs.UntoldReplays.{on_error}
use Rattle.rvm_replay.specs.Findings.{IsFinding, text_of}
use Rattle.rvm_replay.proofs.audit.audit_replayed.Goals as goal

pub returns-in-Ok-InOrder-clause-status : goal.returns-in-Ok-InOrder-clause-status
returns-in-Ok-InOrder-clause-status g c = c.write_audit.ensures.status c.args.files.now

pub returns-in-Ok-InOrder-clause-untold : goal.returns-in-Ok-InOrder-clause-untold
returns-in-Ok-InOrder-clause-untold g c = c.write_audit.ensures.untold c.args.files.now

pub returns-in-Ok-Unordered-clause-status : goal.returns-in-Ok-Unordered-clause-status
returns-in-Ok-Unordered-clause-status g c =
    no_order_found c.args.files.now c.args.all.now (g.E.Write.contents c.args.errors.now)
    (g.E.Write.contents c.tell_unordered.new.errors) c.tell_unordered.result (text_of c.args.text)
    (writer_contents g.O.Write.contents c.args.output.now) (c.tell_unordered.ensures.status c.args.all.now (subst (IsFinding c.args.files.now c.args.all.now) c.in-Ok-Unordered.field-0-is c.in-Ok-Unordered.ensures.found))

pub returns-in-Ok-Unordered-clause-out : goal.returns-in-Ok-Unordered-clause-out
returns-in-Ok-Unordered-clause-out g c =
    not_zero c.args.files.now c.args.all.now (g.E.Write.contents c.args.errors.now)
    (g.E.Write.contents c.tell_unordered.new.errors) _ c.tell_unordered.result (c.tell_unordered.ensures.status c.args.all.now (subst (IsFinding c.args.files.now c.args.all.now) c.in-Ok-Unordered.field-0-is c.in-Ok-Unordered.ensures.found))

pub returns-in-Ok-Unordered-clause-untold : goal.returns-in-Ok-Unordered-clause-untold
returns-in-Ok-Unordered-clause-untold g c =
    no_order_untold c.args.files.now c.args.all.now c.tell_unordered.result (text_of c.args.text)
    (writer_contents g.O.Write.contents c.args.output.now) (c.tell_unordered.ensures.untold c.args.all.now (subst (IsFinding c.args.files.now c.args.all.now) c.in-Ok-Unordered.field-0-is c.in-Ok-Unordered.ensures.found))

pub returns-in_ok-tell_refusal-in-Err-clause-status : goal.returns-in_ok-tell_refusal-in-Err-clause-status
returns-in_ok-tell_refusal-in-Err-clause-status g c =
    let out = writer_contents g.O.Write.contents c.args.output.now in
    out_of_memory c.args.files.now c.args.all.now (text_of c.args.text) out out _ _ c.in_ok-tell_refusal-in-Err.ensures refl

pub returns-in_err-tell_refusal-in-Err-clause-untold : goal.returns-in_err-tell_refusal-in-Err-clause-untold
returns-in_err-tell_refusal-in-Err-clause-untold g c =
    let out = writer_contents g.O.Write.contents c.args.output.now in
    on_error c.from_residual.result _ (memory_untold c.args.files.now c.args.all.now (text_of c.args.text) out out refl)
