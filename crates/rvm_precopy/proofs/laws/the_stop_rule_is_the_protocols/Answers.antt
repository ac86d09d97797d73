use Rattle.rvm_precopy.specs.Ties.{TheStopRuleIsTheProtocols}
use Rattle.rvm_precopy.proofs.Ties.{stops_is}
use Rattle.rvm_precopy.proofs.laws.the_stop_rule_is_the_protocols.Goals as goal

pub returns : goal.returns
unfolding TheStopRuleIsTheProtocols
returns g c = stops_is
