use Rattle.std.proofs.Common.{map}
use Rattle.std.specs.Io.Buffered.{writer_contents}
use Rattle.rvm_replay.specs.declared.audit.AuditText.TheVariants.{Chart, Order, Summary}
use Rattle.rvm_replay.proofs.AuditEnds.{untold_texts_as}
use Rattle.rvm_replay.proofs.audit.audit_journals.Goals as goal

pub returns-in-Summary-clause-untold : goal.returns-in-Summary-clause-untold
returns-in-Summary-clause-untold g c =
    untold_texts_as c.audit_accounts.result c.args.names.now (map g.I.Read.remaining c.args.inputs.items) c.args.image.now Summary
    c.args.text (writer_contents g.O.Write.contents c.args.output.now) (writer_contents g.O.Write.contents c.audit_accounts.new.output)
    c.in-Summary.is c.audit_accounts.ensures.untold

pub returns-in-Order-clause-untold : goal.returns-in-Order-clause-untold
returns-in-Order-clause-untold g c =
    untold_texts_as c.audit_events.result c.args.names.now (map g.I.Read.remaining c.args.inputs.items) c.args.image.now Order
    c.args.text (writer_contents g.O.Write.contents c.args.output.now) (writer_contents g.O.Write.contents c.audit_events.new.output)
    c.in-Order.is c.audit_events.ensures.untold

pub returns-in-Chart-clause-untold : goal.returns-in-Chart-clause-untold
returns-in-Chart-clause-untold g c =
    untold_texts_as c.audit_events-in-Chart.result c.args.names.now (map g.I.Read.remaining c.args.inputs.items) c.args.image.now Chart
    c.args.text (writer_contents g.O.Write.contents c.args.output.now) (writer_contents g.O.Write.contents c.audit_events-in-Chart.new.output)
    c.in-Chart.is c.audit_events-in-Chart.ensures.untold
