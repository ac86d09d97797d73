-- The debugged board is a guest: all that the protocol asks of a guest holds of it.
use Rattle.rvm_protocol.specs.Guest.{IsGuest}
use Rattle.rvm_guest.specs.TheGuest.{board}
use Rattle.rvm_guest.proofs.Bodies.{read_back}
use Rattle.rvm_guest.proofs.Pieces.{joined_again, some_piece}
use Rattle.rvm_guest.proofs.Staying.{same_length, same_processors, stays, unwritten}
use Rattle.rvm_guest.proofs.Tests.{only_zeros_pass, zeros_pass}

pub board_laws : IsGuest board
unfolding board
board_laws =
    record {
      stays = stays;
      same_length = same_length;
      same_processors = same_processors;
      unwritten = unwritten;
      read_back = read_back;
      zeros_pass = zeros_pass;
      only_zeros_pass = only_zeros_pass;
      some_piece = some_piece;
      joined = joined_again;
    }
