use Rattle.rvm_protocol.proofs.Bounds.{bound_law}
use Rattle.rvm_protocol.proofs.CopiesTold.{told_law}
use Rattle.rvm_protocol.proofs.laws.copies_are_bounded.Goals as goal

pub returns : goal.returns
returns g c = record { always = λ m laws. bound_law m laws; told = λ m. told_law m }
