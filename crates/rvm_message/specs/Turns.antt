-- Turns of a hart of a host's guest.
use Rattle.std.specs.Prelude.{ℕ, nat_lt, if◌then◌else◌, [], length, None}
use Rattle.rvm_board.specs.declared.turns.Order.TheVariants.{Alone}
use Rattle.rvm_board.specs.Guest.{Guest}
use Rattle.rvm_board.specs.Turns.{AfterTurns, after_turns}

-- the guest after at most n consecutive turns of hart h; no turn is made if there is no such hart
abbrev pub guest_turned : (h n : ℕ) → Guest → AfterTurns
guest_turned h n g =
    if nat_lt h (length g.board.harts) then after_turns Alone n h g
    else record { guest = g; pages = []; made = 0; stop = None }
