use Rattle.std.proofs.Common.{rules, length, subst, sym}
use Rattle.std.specs.Io.KnownBytes.{Appends}
use Rattle.std.specs.Prelude.{OnOk}
use Rattle.rvm_audit.specs.Rule.{IsMerge}
use Rattle.rvm_replay.specs.Audited.{IsWritten, journals_in}
use Rattle.rvm_replay.specs.Charts.{chart_of}
use Rattle.rvm_replay.specs.Findings.{text_of}
use Rattle.rvm_replay.proofs.AuditEnds.{with_merge}
use Rattle.rvm_replay.proofs.audit.write_text.Goals as goal

pub returns-in-Chart : goal.returns-in-Chart
returns-in-Chart g c =
    let all = c.args.all.now in
    let events = c.args.order.now in
    let before = g.O.Write.contents c.args.output.now in
    let after = g.O.Write.contents c.write_chart.new.output in
    subst (λ text. OnOk c.write_chart.result (IsWritten (text_of text) all events before after)) (sym c.in-Chart.is)
    (with_merge c.write_chart.result (IsMerge (journals_in all) events) (Appends before after (chart_of (length all) events))
    c.requires.merge (search rules))
