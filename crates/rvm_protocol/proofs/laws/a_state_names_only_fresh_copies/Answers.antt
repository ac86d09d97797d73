use Rattle.rvm_protocol.proofs.NoStalePages.{stale_law}
use Rattle.rvm_protocol.proofs.laws.a_state_names_only_fresh_copies.Goals as goal

pub returns : goal.returns
returns g c = record { always = λ m laws. stale_law m laws }
