-- The debugged board as a guest of the protocol of live migration: its states, pages, events and answers, and its
-- states as they are sent.
use Rattle.std.specs.Prelude.{ℕ, List, length}
use Rattle.rvm_protocol.specs.Guest.{Guest}
use Rattle.rvm_board.specs.declared.event.BoardEvent.{BoardEvent}
use Rattle.rvm_board.specs.declared.event.BoardReply.{BoardReply}
use Rattle.rvm_board.specs.Guest as debug
use Rattle.rvm_board.specs.Events.{answered}
use Rattle.rvm_guest.specs.Body.{body_of, build}
use Rattle.rvm_guest.specs.Pages.{after, is_zeros, pages_of, writes, zeros}
use Rattle.rvm_guest.specs.Pieces.{cut, join}
use Rattle.rvm_guest.specs.Valid.{is_valid}

-- the debugged board as a guest: its answers and next states are its debugger's, its RAM is in pages, and its other
-- values are sent as bytes
unfoldable pub board : Guest debug.Guest (List ℕ) BoardEvent BoardReply (List ℕ)
board = record {
  answer = λ g e. (answered e g).reply;
  next = after;
  pages = pages_of;
  wrote = writes;
  processors = λ g. length g.board.harts;
  zeros = zeros;
  is_zeros = is_zeros;
  body = body_of;
  build = build;
  cut = cut;
  join = join;
  valid = is_valid;
}
