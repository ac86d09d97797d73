use Rattle.std.proofs.Common.{refl, subst}
use Rattle.std.specs.Io.Buffered.{writer_contents}
use Rattle.rvm_replay.specs.Findings.{IsWhyUnordered}
use Rattle.rvm_replay.specs.declared.audit.AuditText.TheVariants.{Summary}
use Rattle.rvm_replay.proofs.AuditEnds.{memory_untold, no_order_found, no_order_untold, not_zero, unwritten_untold}
use Rattle.rvm_replay.proofs.UntoldReplays.{on_error}
use Rattle.rvm_replay.proofs.audit.audit_all_accounts.Goals as goal

pub returns-in_err-tell_refusal-in-Err-clause-untold : goal.returns-in_err-tell_refusal-in-Err-clause-untold
returns-in_err-tell_refusal-in-Err-clause-untold g c =
    let out = writer_contents g.O.Write.contents c.args.output.now in
    on_error c.from_residual.result _ (memory_untold c.args.files.now c.args.all.now Summary out out refl)

pub returns-in-Ok-None-clause-untold : goal.returns-in-Ok-None-clause-untold
returns-in-Ok-None-clause-untold g c =
    on_error c.tell_written.result _
    (unwritten_untold c.args.files.now c.args.all.now Summary (writer_contents g.O.Write.contents c.args.output.now)
    (writer_contents g.O.Write.contents c.write_totals.new.output))

pub returns-in-Ok-Some-clause-status : goal.returns-in-Ok-Some-clause-status
returns-in-Ok-Some-clause-status g c =
    let why = subst (IsWhyUnordered c.args.files.now c.args.all.now) c.in-Ok-Some.field-0-is c.in-Ok-Some.ensures.found in
    no_order_found c.args.files.now c.args.all.now (g.E.Write.contents c.args.errors.now)
    (g.E.Write.contents c.tell_unordered.new.errors) c.tell_unordered.result Summary
    (writer_contents g.O.Write.contents c.args.output.now) (c.tell_unordered.ensures.status c.args.all.now why)

pub returns-in-Ok-Some-clause-out : goal.returns-in-Ok-Some-clause-out
returns-in-Ok-Some-clause-out g c =
    let why = subst (IsWhyUnordered c.args.files.now c.args.all.now) c.in-Ok-Some.field-0-is c.in-Ok-Some.ensures.found in
    not_zero c.args.files.now c.args.all.now (g.E.Write.contents c.args.errors.now)
    (g.E.Write.contents c.tell_unordered.new.errors) _ c.tell_unordered.result
    (c.tell_unordered.ensures.status c.args.all.now why)

pub returns-in-Ok-Some-clause-untold : goal.returns-in-Ok-Some-clause-untold
returns-in-Ok-Some-clause-untold g c =
    let why = subst (IsWhyUnordered c.args.files.now c.args.all.now) c.in-Ok-Some.field-0-is c.in-Ok-Some.ensures.found in
    no_order_untold c.args.files.now c.args.all.now c.tell_unordered.result Summary
    (writer_contents g.O.Write.contents c.args.output.now) (c.tell_unordered.ensures.untold c.args.all.now why)
