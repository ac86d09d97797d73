use Rattle.rvm_protocol.proofs.CausesOfRuns.{follow_law}
use Rattle.rvm_protocol.proofs.laws.frames_follow_their_causes.Goals as goal

pub returns : goal.returns
returns g c = record { always = λ m laws. follow_law m laws }
