use Rattle.rvm_protocol.specs.Rounds.{page_count}
use Rattle.rvm_precopy.specs.Ties.{TheNumbersAreTheProtocols}
use Rattle.rvm_precopy.proofs.Ties.{numbers_are}
use Rattle.rvm_precopy.proofs.laws.the_numbers_are_the_protocols.Goals as goal

pub returns : goal.returns
unfolding TheNumbersAreTheProtocols
returns g c = λ m g turn r same. numbers_are r.newest (page_count m g) same
