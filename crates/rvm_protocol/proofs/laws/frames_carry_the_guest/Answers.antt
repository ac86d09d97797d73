use Rattle.rvm_protocol.proofs.Contents.{carry_law}
use Rattle.rvm_protocol.proofs.laws.frames_carry_the_guest.Goals as goal

pub returns : goal.returns
returns g c = record { always = λ m laws. carry_law m laws }
