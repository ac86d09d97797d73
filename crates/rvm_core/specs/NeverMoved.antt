-- The law of live migration in worlds of debugged boards.
use Rattle.std.specs.Prelude.{◌≡◌, ℕ, true, List}
use Rattle.rvm_board.specs.declared.event.BoardEvent.{BoardEvent}
use Rattle.rvm_board.specs.declared.event.BoardReply.{BoardReply}
use Rattle.rvm_board.specs.Guest.{Guest}
use Rattle.rvm_guest.specs.TheGuest.{board}
use Rattle.rvm_guest.specs.Valid.{is_valid}
use Rattle.rvm_protocol.specs.Course.{InEachState, NeverMoves, PastIsTrue}
use Rattle.rvm_protocol.specs.Shown.{Shown}
use Rattle.rvm_protocol.specs.Told.{Told}
use Rattle.rvm_protocol.specs.World.{Entry, Event, new_world, run}
use Rattle.rvm_core.specs.Worlds.{BoardWorld}

-- what is seen of an event in a world of boards
abbrev pub BoardEntry : Type 0
BoardEntry = Entry (List ℕ) BoardEvent BoardReply (List ℕ)

-- whatever events led from the world `old` to the world `new`, the guest that the modes of `old` show never moved while
-- they were made, and the frames and copies of each state on the way are right
unfoldable pub NeverMoved : (old new : BoardWorld) → Type 0
NeverMoved old new =
    (t : Told Guest) (events : List (Event BoardEvent)) → Shown old.hosts t → new ≡ run board old events
    → NeverMoves board t old events

-- whatever events led from `old`, a new world, to the world `new`: in each state on the way, what was seen until then
-- has the cause of each Ready, Go and Started, and tells the copies of each move
unfoldable pub TellsItsPast : (old new : BoardWorld) → Type 0
TellsItsPast old new =
    (start : Guest) (limits : ℕ → ℕ) (events : List (Event BoardEvent)) → is_valid start ≡ true
    → old ≡ new_world board old.version 0 start old.count limits → new ≡ run board old events
    → InEachState board (PastIsTrue board) old events
