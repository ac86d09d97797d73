use Rattle.rvm_protocol.proofs.RoundCopies.{round_law}
use Rattle.rvm_protocol.proofs.laws.a_round_copies_what_is_not_written_again.Goals as goal

pub returns : goal.returns
returns g c = record { always = λ m laws. round_law m laws }
