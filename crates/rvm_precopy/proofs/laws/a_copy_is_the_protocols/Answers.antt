use Rattle.rvm_precopy.specs.Ties.{ACopyIsTheProtocols}
use Rattle.rvm_precopy.proofs.Ties.{copied_is}
use Rattle.rvm_precopy.proofs.laws.a_copy_is_the_protocols.Goals as goal

pub returns : goal.returns
unfolding ACopyIsTheProtocols
returns g c = copied_is
