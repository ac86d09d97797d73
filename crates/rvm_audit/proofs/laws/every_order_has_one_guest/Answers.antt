use Rattle.rvm_audit.proofs.Guests.{every_cut, every_order, one_guest}
use Rattle.rvm_audit.proofs.laws.every_order_has_one_guest.Goals as goal

pub returns-clause-accepted : goal.returns-clause-accepted
returns-clause-accepted c = every_order

pub returns-clause-cuts : goal.returns-clause-cuts
returns-clause-cuts c = every_cut

pub returns-clause-guest : goal.returns-clause-guest
returns-clause-guest c = one_guest
