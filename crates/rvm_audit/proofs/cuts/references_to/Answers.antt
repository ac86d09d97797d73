use Rattle.std.proofs.Common.{refl, sym}
use Rattle.rvm_audit.proofs.Outlined.{one_reference}
use Rattle.rvm_audit.proofs.cuts.references_to.Goals as goal

pub loop-host-preserved : goal.loop-host-preserved
loop-host-preserved c =
    one_reference c.args.outlines.now c.loop-host.host c.index-outlines-host.result c.loop-host.all.items c.push.new.self.items _
    c.loop-host-test.true (sym c.index-outlines-host.is) c.loop-host.invariant refl c.in_ok-push.ensures.items
