use Rattle.std.proofs.Common.{sym}
use Rattle.rvm_precopy.specs.Ties.{TheNextPageIsTheProtocols}
use Rattle.rvm_precopy.proofs.Ties.{found_is}
use Rattle.rvm_precopy.proofs.laws.the_next_page_is_the_protocols.Goals as goal

pub returns : goal.returns
unfolding TheNextPageIsTheProtocols
returns g c = λ m g log r same. sym (found_is m g log r same)
