-- Consecutive turns of the harts.
use Rattle.std.specs.Prelude.{ℕ, zero, suc, ◌≡◌, ◌+◌, ◌%◌, List, [], ◌++◌, length, Option, Some, None}
use Rattle.rvm_mem.specs.Pages.{mark_all}
use Rattle.rvm_board.specs.declared.event.BoardReply.{BoardReply}
use Rattle.rvm_board.specs.declared.event.BoardReply.TheVariants as reply
use Rattle.rvm_board.specs.declared.turns.Order.{Order}
use Rattle.rvm_board.specs.declared.turns.Order.TheVariants.{Alone, RoundRobin}
use Rattle.rvm_board.specs.declared.turns.Stop.{Stop}
use Rattle.rvm_board.specs.declared.turns.Stop.TheVariants.{Break, Halted}
use Rattle.rvm_board.specs.declared.turns.Turns.{Turns}
use Rattle.rvm_board.specs.Guest.{Guest, GuestState}
use Rattle.rvm_board.specs.Events.{Answered, steps}

-- the hart that has the turn after hart h, of n harts
abbrev pub next_hart : Order → (n h : ℕ) → ℕ
next_hart Alone n h = h
next_hart RoundRobin n h = (h + 1) % n

-- what ends turns with this answer to a step: a breakpoint, or a halted board
abbrev pub stop_in : BoardReply → Option Stop
stop_in (reply.Break a) = Some (Break a)
stop_in (reply.Halted s) = Some (Halted s)
stop_in r = None

-- the answer to the step that ended the turns
abbrev pub reply_of_stop : Stop → BoardReply
reply_of_stop (Break a) = reply.Break a
reply_of_stop (Halted s) = reply.Halted s

-- the guest that turns leave, the pages that they wrote, how many were made, and what ended them early
pub record AfterTurns : Type 0 where
  pub guest : Guest
  pub pages : List ℕ
  pub made : ℕ
  pub stop : Option Stop

-- turns after others, which wrote these pages and were this many
abbrev pub behind : (pages : List ℕ) → (made : ℕ) → AfterTurns → AfterTurns
behind pages made t = record t { pages = pages ++ t.pages; made = made + t.made }

-- a turn and the others after it, unless it ends them
abbrev pub unless_stopped : Option Stop → Answered → AfterTurns → AfterTurns
unless_stopped (Some s) turn others = record { guest = turn.guest; pages = turn.pages; made = 1; stop = Some s }
unless_stopped None turn others = behind turn.pages 1 others

-- at most n turns, the first of them of hart h
unfoldable pub after_turns : Order → (n h : ℕ) → Guest → AfterTurns
after_turns order zero h g = record { guest = g; pages = []; made = 0; stop = None }
after_turns order (suc n) h g =
    let turn = steps h g in
    unless_stopped (stop_in turn.reply) turn
    (after_turns order n (next_hart order (length g.board.harts) h) turn.guest)

-- a guest took these turns, and this was reported of them; their pages are in the dirty log
pub record TakesTurns (t : AfterTurns) (old new : GuestState) (told : Turns) : Type 0 where
  pub guest : new.guest ≡ t.guest
  pub dirty : new.dirty ≡ mark_all t.pages old.dirty
  pub made : told.made ≡ t.made
  pub stop : told.stop ≡ t.stop
