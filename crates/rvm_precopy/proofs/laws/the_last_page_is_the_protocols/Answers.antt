use Rattle.std.proofs.Common.{sym}
use Rattle.rvm_precopy.specs.Ties.{TheLastPageIsTheProtocols}
use Rattle.rvm_precopy.proofs.Ties.{last_found_is}
use Rattle.rvm_precopy.proofs.laws.the_last_page_is_the_protocols.Goals as goal

pub returns : goal.returns
unfolding TheLastPageIsTheProtocols
returns g c = λ m g turn r same. sym (last_found_is m g turn r same)
