use Rattle.rvm_precopy.specs.Ties.{TheFirstRoundIsTheProtocols}
use Rattle.rvm_precopy.proofs.Ties.{opened_is}
use Rattle.rvm_precopy.proofs.laws.the_first_round_is_the_protocols.Goals as goal

pub returns : goal.returns
unfolding TheFirstRoundIsTheProtocols
returns g c = λ m g n r same. opened_is m g n r same
