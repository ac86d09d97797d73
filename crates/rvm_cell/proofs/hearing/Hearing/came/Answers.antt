use Rattle.std.proofs.Common.{refl}
use Rattle.rvm_cell.proofs.Works.{receiver_more}
use Rattle.rvm_cell.proofs.hearing.Hearing.came.Goals as goal

pub invariant_of-self : goal.invariant_of-self
invariant_of-self g c =
    receiver_more c.self.inside.from _ c.self.inside.caller c.tell.new.caller (λ t. t.reply) c.tell.result c.self.invariant refl
    c.tell.ensures.call c.tell.ensures.err
