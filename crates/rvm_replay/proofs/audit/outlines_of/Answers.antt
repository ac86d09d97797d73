use Rattle.std.proofs.Common.{subst, sym}
use Rattle.std.proofs.lemmas.List.{take_all}
use Rattle.rvm_audit.specs.Outlines.{AreOutlinesOf, outlines_in}
use Rattle.rvm_replay.specs.Findings.{histories_in}
use Rattle.rvm_replay.proofs.AuditEnds.{one_outline}
use Rattle.rvm_replay.proofs.audit.outlines_of.Goals as goal

pub loop-host-preserved : goal.loop-host-preserved
loop-host-preserved g c =
    one_outline c.args.all.now c.loop-host.host c.index-all-host.result c.loop-host.outlines.items c.push.new.self.items c.outline.result
    c.loop-host-test.true (sym c.index-all-host.is) c.loop-host.invariant c.outline.ensures c.in_ok-push.ensures.items

pub returns : goal.returns
returns g c =
    subst (λ all. AreOutlinesOf (histories_in all) (outlines_in c.loop-host.outlines.items))
    (take_all c.loop-host.host c.args.all.now c.loop-host-test.false) c.loop-host.invariant
