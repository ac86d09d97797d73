use Rattle.rvm_precopy.specs.Ties.{ALastCopyIsTheProtocols}
use Rattle.rvm_precopy.proofs.Ties.{last_copied_is}
use Rattle.rvm_precopy.proofs.laws.a_last_copy_is_the_protocols.Goals as goal

pub returns : goal.returns
unfolding ALastCopyIsTheProtocols
returns g c = last_copied_is
