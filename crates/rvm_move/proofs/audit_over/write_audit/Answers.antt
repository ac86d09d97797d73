use Rattle.std.proofs.Common.{rules}
use Rattle.rvm_move.proofs.Unordered.{has_failed}
use Rattle.rvm_move.proofs.Untold as untold
use Rattle.rvm_move.proofs.audit_over.write_audit.Goals as goal

pub returns-then-status-ne0-clause-failed : goal.returns-then-status-ne0-clause-failed
returns-then-status-ne0-clause-failed g c =
    let m = c.args.moved.now in
    has_failed c.in_ok-status.status m.ends m.a.fault m.b.fault m.a.recorded.journal m.b.recorded.journal
    (g.E.Write.contents c.args.errors.now) (g.E.Write.contents c.tell_failure.new.errors) c.in_ok-status.ensures.sound
    c.in_ok-status.ensures.told

pub returns-in_err-status-clause-untold : goal.returns-in_err-status-clause-untold
returns-in_err-status-clause-untold g c =
    let m = c.args.moved.now in
    untold.has_failed c.from_residual.result m.ends m.a.fault m.b.fault m.a.recorded.journal m.b.recorded.journal
    c.in_err-status.ensures.untold

pub returns-clause-untold : goal.returns-clause-untold
returns-clause-untold g c =
    let m = c.args.moved.now in
    untold.has_no_order c.write_order.result m.ends m.a.fault m.b.fault m.a.recorded.journal m.b.recorded.journal
    (search rules)
