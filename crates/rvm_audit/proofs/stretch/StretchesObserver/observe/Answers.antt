use Rattle.std.proofs.Common.{sym}
use Rattle.rvm_audit.proofs.Pasts.{one_more}
use Rattle.rvm_audit.proofs.stretch.StretchesObserver.observe.Goals as goal

pub loop-item-preserved : goal.loop-item-preserved
loop-item-preserved c =
    one_more c.args.items.now c.loop-item.item-index c.item-item.result c.args.self.now c.loop-item.self c.note.new.self
    c.loop-item-test.true (sym c.item-item.is) c.loop-item.invariant c.in_ok-note.ensures
