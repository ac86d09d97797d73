-- The laws of live migration, for worlds of debugged boards.
use Rattle.std.proofs.Common.{◌≡◌, true, sym, subst}
use Rattle.rvm_board.specs.Guest.{Guest}
use Rattle.rvm_guest.proofs.TheGuest.{board_laws}
use Rattle.rvm_guest.specs.TheGuest.{board}
use Rattle.rvm_guest.specs.Valid.{is_valid}
use Rattle.rvm_protocol.proofs.Course.{course_law_from_any_world, past_law}
use Rattle.rvm_protocol.specs.Course.{InEachState, NeverMoves, PastIsTrue, RunsNeverMoveFromAnyWorld, RunsTellTheirPast}
use Rattle.rvm_protocol.specs.Shown.{Shown}
use Rattle.rvm_core.specs.NeverMoved.{NeverMoved, TellsItsPast}
use Rattle.rvm_core.specs.Worlds.{BoardWorld, IsReached}

pub allowed : (g : Guest) → is_valid g ≡ true → board.valid g ≡ true
unfolding board
allowed g valid = valid

-- in runs from any world that was reached
pub never_moved : (old new : BoardWorld) → IsReached old → NeverMoved old new
unfolding NeverMoved RunsNeverMoveFromAnyWorld
never_moved old new r t events shown made =
    subst (λ z. NeverMoves board t z events) (sym r.reached)
    (course_law_from_any_world board board_laws r.start old.version 0 old.count r.limits r.before events t
    (allowed r.start r.valid) (subst (λ z. Shown z.hosts t) r.reached shown))

-- in runs from a new world
pub tells_its_past : (old new : BoardWorld) → TellsItsPast old new
unfolding TellsItsPast RunsTellTheirPast
tells_its_past old new start limits events valid is_new made =
    subst (λ z. InEachState board (PastIsTrue board) z events) (sym is_new)
    (past_law board board_laws start old.version 0 old.count limits events (allowed start valid))
