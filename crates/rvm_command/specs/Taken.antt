-- The steps among events.
use Rattle.std.specs.Prelude.{ℕ, List, [], ◌∷◌, ◌++◌}
use Rattle.rvm_board.specs.declared.event.BoardEvent.{BoardEvent}
use Rattle.rvm_board.specs.declared.event.BoardEvent.TheVariants.{Step}
use Rattle.rvm_board.specs.declared.event.BoardReply.{BoardReply}
use Rattle.rvm_board.specs.Guest.{Guest}
use Rattle.rvm_board.specs.Events.{Answered, answered}

-- a step that a hart took: the guest before it and after it, and its answer
pub record Taken : Type 0 where
  pub hart : ℕ
  pub before : Guest
  pub after : Guest
  pub reply : BoardReply

-- the step that an event is, if it is one, by what it left
abbrev pub step_in : BoardEvent → Guest → Answered → List Taken
step_in (Step h) g a = record { hart = h; before = g; after = a.guest; reply = a.reply } ∷ []
step_in event g a = []

-- the steps among events that begin with this guest, in order
unfoldable pub steps_in : List BoardEvent → Guest → List Taken
steps_in [] g = []
steps_in (event ∷ events) g =
    let a = answered event g in
    step_in event g a ++ steps_in events a.guest
