-- Steps of harts in turn, each of which retires an instruction.
use Rattle.std.specs.Prelude.{◌≡◌, ℕ, zero, suc, ◌+◌, ◌%◌, ◌<◌, ◌≤◌, true, length, Option, Some, None, is_some}
use Rattle.rvm_mem.specs.Pages.{mark_all}
use Rattle.rvm_hart.specs.declared.outcome.Stepped.{Stepped}
use Rattle.rvm_board.specs.declared.event.BoardReply.TheVariants as reply
use Rattle.rvm_board.specs.declared.retiring.Retired.{Retired}
use Rattle.rvm_board.specs.Guest.{GuestState}
use Rattle.rvm_board.specs.Events.{reply_of, steps}

-- a guest and its dirty log after a step of a hart
abbrev pub stepped : (h : ℕ) → GuestState → GuestState
stepped h g = let a = steps h g.guest in record { guest = a.guest; dirty = mark_all a.pages g.dirty }

-- n consecutive steps of this many harts in turn, from this turn on, each of which retired an
-- instruction
abbrev pub Retire : (harts n turn : ℕ) → (old new : GuestState) → Type 0
Retire harts zero turn old new = new ≡ old
Retire harts (suc n) turn old new =
    (turn % harts < length old.guest.board.harts) × ((steps (turn % harts) old.guest).reply ≡ reply.Retired)
    × Retire harts n (turn + 1) (stepped (turn % harts) old) new

-- one step of hart h, if one was made, and what it did
abbrev pub Ends : (h : ℕ) → Option Stepped → (old new : GuestState) → Type 0
Ends h None old new = new ≡ old
Ends h (Some s) old new =
    (h < length old.guest.board.harts) × ((steps h old.guest).reply ≡ reply_of s) × (new ≡ stepped h old)

-- at most `count` steps, all of which but the last retired an instruction, and what was reported of
-- them
pub record RetiresThen (harts turn count : ℕ) (old new : GuestState) (told : Retired) : Type 0 where
  pub between : GuestState
  pub few : told.count ≤ count
  pub fewer : is_some told.last ≡ true → told.count < count
  pub retired : Retire harts told.count turn old between
  pub ends : Ends ((turn + told.count) % harts) told.last between new
