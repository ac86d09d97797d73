use Rattle.rvm_guest.proofs.Bodies.{built, not_built}
use Rattle.rvm_guest.proofs.laws.bytes_build_the_guest_that_they_spell.Goals as goal

pub returns : goal.returns
returns c = record {
  spelled = λ harts bytes ram g whole is. built harts bytes ram g whole is;
  none = λ harts bytes ram whole some are no_guest. not_built harts bytes ram whole some are no_guest;
}
