use Rattle.rvm_protocol.proofs.OneGuestHolds.{the_law, the_law_from_any_world}
use Rattle.rvm_protocol.proofs.laws.the_guest_is_the_one_that_never_moves.Goals as goal

pub returns : goal.returns
returns g c = record { always = λ m laws. the_law m laws; from_any_world = λ m laws. the_law_from_any_world m laws }
