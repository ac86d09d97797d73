-- Turns that leave the console as it is.
use Rattle.std.specs.Prelude.{◌≡◌, ℕ, zero, suc, ◌+◌, ◌%◌, ◌<◌, length}
use Rattle.rvm_board.specs.declared.event.BoardReply.TheVariants as reply
use Rattle.rvm_board.specs.Guest.{Guest, GuestState}
use Rattle.rvm_board.specs.Events.{steps}
use Rattle.rvm_board.specs.Retiring.{stepped}

-- the consoles of two guests hold the same bytes
pub record HaveSameConsole (old new : Guest) : Type 0 where
  pub input : new.board.shared.devices.input ≡ old.board.shared.devices.input
  pub output : new.board.shared.devices.output ≡ old.board.shared.devices.output

-- n consecutive turns of this many harts, from this turn on, each of which retired an instruction and left the console
-- as it was
abbrev pub Compute : (harts n turn : ℕ) → (old new : GuestState) → Type 0
Compute harts zero turn old new = new ≡ old
Compute harts (suc n) turn old new =
    (turn % harts < length old.guest.board.harts) × ((steps (turn % harts) old.guest).reply ≡ reply.Retired)
    × HaveSameConsole old.guest (steps (turn % harts) old.guest).guest
    × Compute harts n (turn + 1) (stepped (turn % harts) old) new
