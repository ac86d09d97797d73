use Rattle.rvm_protocol.proofs.RoundCounts.{tell_law}
use Rattle.rvm_protocol.proofs.laws.a_round_tells_its_copies.Goals as goal

pub returns : goal.returns
returns g c = record { always = λ m laws. tell_law m laws }
