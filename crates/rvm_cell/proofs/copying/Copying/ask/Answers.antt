use Rattle.std.proofs.Common.{subst, sym}
use Rattle.rvm_message.specs.declared.event.HostEvent.TheVariants.{Do}
use Rattle.rvm_cell.specs.Copiers.{MayAsk}
use Rattle.rvm_cell.proofs.Copiers.{copier_more}
use Rattle.rvm_cell.proofs.copying.Copying.ask.Goals as goal

pub invariant_of-self : goal.invariant_of-self
invariant_of-self g c =
    let old = c.self.inside in
    let here = subst (λ v. MayAsk v.to v.policy v.last (Do c.args.command)) (sym c.self.view_is) c.requires in
    copier_more old.to old.policy (Do c.args.command) old.caller c.tell-told.new.caller (λ t. t.reply) c.tell-told.result c.self.invariant here
    c.tell-told.ensures.call c.tell-told.ensures.err
