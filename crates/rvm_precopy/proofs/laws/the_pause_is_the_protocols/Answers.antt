use Rattle.rvm_precopy.specs.Ties.{ThePauseIsTheProtocols}
use Rattle.rvm_precopy.proofs.Ties.{stopped_is}
use Rattle.rvm_precopy.proofs.laws.the_pause_is_the_protocols.Goals as goal

pub returns : goal.returns
unfolding ThePauseIsTheProtocols
returns g c = stopped_is
