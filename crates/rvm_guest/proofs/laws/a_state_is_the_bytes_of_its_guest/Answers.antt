use Rattle.rvm_guest.proofs.Bodies.{body_is}
use Rattle.rvm_guest.proofs.laws.a_state_is_the_bytes_of_its_guest.Goals as goal

pub returns : goal.returns
returns c = λ g has. body_is g has
