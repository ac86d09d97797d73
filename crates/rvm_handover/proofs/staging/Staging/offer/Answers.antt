use Rattle.rvm_handover.proofs.Copies.{new_is}
use Rattle.rvm_handover.proofs.staging.Staging.offer.Goals as goal

pub returns-clause-new : goal.returns-clause-new
returns-clause-new g c =
    new_is (g.M.Memory.bytes c.in_ok-memory.memory) c.in_ok-have.have.items c.args.pages c.args.harts c.in_ok-memory.ensures.bytes (c.in_ok-have.ensures.items_if_clones_equal (λ y e. e))
