use Rattle.rvm_precopy.specs.Ties.{TheEndOfARoundIsTheProtocols}
use Rattle.rvm_precopy.proofs.Ties.{after_is}
use Rattle.rvm_precopy.proofs.laws.the_end_of_a_round_is_the_protocols.Goals as goal

pub returns : goal.returns
unfolding TheEndOfARoundIsTheProtocols
returns g c = after_is
