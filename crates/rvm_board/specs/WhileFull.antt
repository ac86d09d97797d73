-- Turns while the guest leaves its input waiting.
use Rattle.std.specs.Prelude.{ℕ, zero, suc, ◌+◌, ◌%◌, ◌==◌, Bool, if◌then◌else◌, [], length, None}
use Rattle.rvm_board.specs.Guest.{Guest}
use Rattle.rvm_board.specs.Events.{steps}
use Rattle.rvm_board.specs.Turns.{AfterTurns, stop_in, unless_stopped}

-- 16 bytes wait for the guest, so that no more can come
abbrev pub is_full : Guest → Bool
is_full g = length g.board.shared.devices.input == 16

-- no turn is made
abbrev pub no_turns : Guest → AfterTurns
no_turns g = record { guest = g; pages = []; made = 0; stop = None }

-- at most n turns of the harts in their order, the first of them of hart h, as long as the guest
-- passes the test after each of them
unfoldable pub turns_while : (Guest → Bool) → (n h : ℕ) → Guest → AfterTurns
turns_while is_so zero h g = no_turns g
turns_while is_so (suc n) h g =
    let turn = steps h g in
    unless_stopped (stop_in turn.reply) turn
    (if is_so turn.guest
    then turns_while is_so n ((h + 1) % length g.board.harts) turn.guest
    else no_turns turn.guest)
