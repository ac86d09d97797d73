-- A guest that is given consecutive events, as its debugger answers them.
use Rattle.std.specs.Prelude.{◌≡◌, ℕ, zero, suc, List, [], ◌∷◌, ◌++◌, length, Option, Some, None}
use Rattle.rvm_board.specs.declared.event.BoardEvent.{BoardEvent}
use Rattle.rvm_board.specs.declared.event.BoardEvent.TheVariants.{Step}
use Rattle.rvm_board.specs.declared.turns.Order.{Order}
use Rattle.rvm_board.specs.declared.turns.Stop.{Stop}
use Rattle.rvm_board.specs.Guest.{Guest}
use Rattle.rvm_board.specs.Events.{answered}
use Rattle.rvm_board.specs.Turns.{AfterTurns, next_hart, stop_in}

-- the guest that these events leave
unfoldable pub after_all : Guest → List BoardEvent → Guest
after_all g [] = g
after_all g (e ∷ es) = after_all (answered e g).guest es

-- the pages that these events write, in the order in which they are written
unfoldable pub written : Guest → List BoardEvent → List ℕ
written g [] = []
written g (e ∷ es) = (answered e g).pages ++ written (answered e g).guest es

-- the events that follow a turn: none if it ends the turns
abbrev pub unless_over : Option Stop → List BoardEvent → List BoardEvent
unless_over (Some s) rest = []
unless_over None rest = rest

-- the events that make up at most n turns, of which hart h has the first
unfoldable pub steps_in : Order → (n h : ℕ) → Guest → List BoardEvent
steps_in order zero h g = []
steps_in order (suc n) h g =
    let turn = answered (Step h) g in
    Step h ∷ unless_over (stop_in turn.reply) (steps_in order n (next_hart order (length g.board.harts) h) turn.guest)

-- turns leave the guest that these events leave, write the same pages, and are as many as the events
pub record AreTurns (events : List BoardEvent) (t : AfterTurns) (g : Guest) : Type 0 where
  pub guest : t.guest ≡ after_all g events
  pub pages : t.pages ≡ written g events
  pub made : t.made ≡ length events
