use Rattle.rvm_guest.proofs.TheGuest.{board_laws}
use Rattle.rvm_guest.proofs.laws.the_board_is_a_guest.Goals as goal

pub returns : goal.returns
returns c = board_laws
