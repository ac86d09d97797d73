use Rattle.rvm_guest.specs.TheGuest.{board}
use Rattle.rvm_handover.proofs.staging.Staging.zero.Goals as goal

pub returns-clause-came : goal.returns-clause-came
unfolding board
returns-clause-came g c = λ move. c.page.ensures.came move
