use Rattle.std.proofs.Common.{refl}
use Rattle.std.specs.Io.Buffered.{writer_contents}
use Rattle.rvm_replay.proofs.AuditEnds.{in_order, unwritten, unwritten_untold}
use Rattle.rvm_replay.proofs.UntoldReplays.{on_error}
use Rattle.rvm_replay.specs.Findings.{text_of}
use Rattle.rvm_replay.proofs.audit.write_audit.Goals as goal

pub returns-in-Ok-clause-status : goal.returns-in-Ok-clause-status
returns-in-Ok-clause-status g c files =
    in_order files c.args.all.now (text_of c.args.text) (writer_contents g.O.Write.contents c.args.output.now)
    (writer_contents g.O.Write.contents c.write_flushed.new.output) (g.E.Write.contents c.args.errors.now)
    (g.E.Write.contents c.args.errors.now) c.args.order.now c.requires.merge.order c.in-Ok.ensures.written refl

pub returns-in_ok-tell_refusal-in-Err-clause-status : goal.returns-in_ok-tell_refusal-in-Err-clause-status
returns-in_ok-tell_refusal-in-Err-clause-status g c files =
    unwritten files c.args.all.now (text_of c.args.text) (writer_contents g.O.Write.contents c.args.output.now)
    (writer_contents g.O.Write.contents c.write_flushed.new.output) (g.E.Write.contents c.args.errors.now)
    (g.E.Write.contents c.tell_refusal.new.errors) c.in_ok-tell_refusal-in-Err.ensures

pub returns-in_err-tell_refusal-in-Err-clause-untold : goal.returns-in_err-tell_refusal-in-Err-clause-untold
returns-in_err-tell_refusal-in-Err-clause-untold g c files =
    on_error c.from_residual.result _
    (unwritten_untold files c.args.all.now (text_of c.args.text) (writer_contents g.O.Write.contents c.args.output.now)
    (writer_contents g.O.Write.contents c.write_flushed.new.output))
