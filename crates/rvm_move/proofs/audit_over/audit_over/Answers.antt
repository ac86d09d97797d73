use Rattle.std.specs.Prelude.{None}
use Rattle.rvm_move.specs.Ended.{IsMade, IsSound}
use Rattle.rvm_move.proofs.MovesTold.{made}
use Rattle.rvm_move.proofs.Orders.{of_answer}
use Rattle.rvm_move.proofs.Unordered.{not_audited, not_begun}
use Rattle.rvm_move.proofs.Untold as untold
use Rattle.rvm_move.proofs.audit_over.audit_over.Goals as goal

pub returns-in-Ok-clause-made : goal.returns-in-Ok-clause-made
returns-in-Ok-clause-made g c =
    let m = c.in-Ok.moved in
    of_answer c.audit_moved.result (λ a. a.status) (λ a. a.hosts) (IsSound m.ends m.a.fault m.b.fault)
    (λ first second. IsMade c.args.arguments.now first.journal.entries second.journal.entries None None)
    m.a.recorded m.b.recorded
    (made c.args.arguments.now m.ends m.a.fault m.b.fault m.a.recorded.journal.entries m.b.recorded.journal.entries None None
    c.in-Ok.ensures.a c.in-Ok.ensures.b c.in-Ok.ensures.run)
    c.audit_moved.ensures.hosts c.audit_moved.ensures.sound c.audit_moved.ensures.same

pub returns-in-Ok-clause-failed : goal.returns-in-Ok-clause-failed
returns-in-Ok-clause-failed g c =
    let m = c.in-Ok.moved in
    not_audited c.audit_moved.result (λ a. a.status) c.args.arguments.now c.args.image.now m.ends m.a.fault m.b.fault
    m.a.recorded.journal m.b.recorded.journal (g.E.Write.contents c.args.errors.now) (g.E.Write.contents c.audit_moved.new.errors)
    (record { opened = c.in-Ok.ensures.opened; of_first = c.in-Ok.ensures.a; of_second = c.in-Ok.ensures.b }) c.audit_moved.ensures.failed

pub returns-in-Err-clause-failed : goal.returns-in-Err-clause-failed
returns-in-Err-clause-failed g c =
    not_begun c.no_hosts.result (λ a. a.status) c.args.arguments.now c.args.image.now c.in-Err.refused
    (g.E.Write.contents c.args.errors.now) (g.E.Write.contents c.no_hosts.new.errors) c.in-Err.ensures.refused c.no_hosts.ensures.told

pub returns-in-Ok-clause-untold : goal.returns-in-Ok-clause-untold
returns-in-Ok-clause-untold g c =
    let m = c.in-Ok.moved in
    untold.not_audited c.audit_moved.result c.args.arguments.now c.args.image.now m.ends m.a.fault m.b.fault
    m.a.recorded.journal m.b.recorded.journal (record { opened = c.in-Ok.ensures.opened; of_first = c.in-Ok.ensures.a; of_second = c.in-Ok.ensures.b }) c.audit_moved.ensures.untold

pub returns-in-Err-clause-untold : goal.returns-in-Err-clause-untold
returns-in-Err-clause-untold g c =
    untold.not_begun c.no_hosts.result c.args.arguments.now c.args.image.now c.in-Err.refused c.in-Err.ensures.refused
