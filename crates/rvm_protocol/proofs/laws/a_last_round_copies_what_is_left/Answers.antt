use Rattle.rvm_protocol.proofs.LastRound.{last_law}
use Rattle.rvm_protocol.proofs.laws.a_last_round_copies_what_is_left.Goals as goal

pub returns : goal.returns
returns g c = record { always = λ m version self count limit partner n. last_law m version self count limit partner n }
