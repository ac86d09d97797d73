-- Events in order, with steps and rounds kept as runs.
use Rattle.std.specs.Prelude.{◌≡◌, ℕ, zero, suc, ◌+◌, ◌%◌, ◌<◌, List, [], ◌∷◌, ◌++◌, Option, Some, None, drop, map}
use Rattle.rvm_board.specs.declared.event.BoardEvent.TheVariants.{Drain, Step}
use Rattle.rvm_message.specs.declared.event.Command.TheVariants.{Board}
use Rattle.rvm_core.specs.declared.event.Event.{Event}
use Rattle.rvm_core.specs.declared.event.Event.TheVariants.{At}
use Rattle.rvm_audit.specs.declared.placed.Piece.{Piece}
use Rattle.rvm_audit.specs.declared.placed.Piece.TheVariants as piece
use Rattle.rvm_audit.specs.declared.placed.Placed.{Placed}
use Rattle.rvm_audit.specs.declared.placed.Placed.TheVariants as placed

-- the events of n steps at a host, by its harts in turn, from this turn on
unfoldable pub steps_at : (host turn harts n : ℕ) → List Event
steps_at host turn harts zero = []
steps_at host turn harts (suc n) = At host (Board (Step (turn % harts))) ∷ steps_at host (turn + 1) harts n

-- the events of n rounds at a host: in each, `steps` steps by its harts in turn, and a drain of at most `drain` bytes
-- after them
unfoldable pub rounds_at : (host turn harts steps drain n : ℕ) → List Event
rounds_at host turn harts steps drain zero = []
rounds_at host turn harts steps drain (suc n) =
    steps_at host turn harts steps
    ++ (At host (Board (Drain drain)) ∷ rounds_at host (turn + steps) harts steps drain n)

-- the events of what is kept in one piece
abbrev pub events_of : Placed → List Event
events_of (placed.Event e) = e ∷ []
events_of (placed.Steps host s) = steps_at host s.turn s.harts s.count
events_of (placed.Rounds host r) = rounds_at host r.turn r.harts r.steps r.drain r.count

-- the events of all that is kept, in order
abbrev pub all_events : List Placed → List Event
all_events [] = []
all_events (p ∷ ps) = events_of p ++ all_events ps

-- the events of all that is kept, without the first k of its first piece
abbrev pub events_behind : List Placed → ℕ → List Event
events_behind [] k = []
events_behind (p ∷ ps) k = drop k (events_of p) ++ all_events ps

-- what a host is asked for in a run of turns: a step of a hart, or else a drain of at most `drain` bytes
abbrev pub asked_at : (host drain : ℕ) → (hart : Option ℕ) → Event
asked_at host drain (Some hart) = At host (Board (Step hart))
asked_at host drain None = At host (Board (Drain drain))

-- how many of these are steps
abbrev pub turns_in : List (Option ℕ) → ℕ
turns_in [] = 0
turns_in (Some hart ∷ asked) = suc (turns_in asked)
turns_in (None ∷ asked) = turns_in asked

-- the events are this many turns of a host, at least one, with the drains between them and after them
pub record AreTurns (host turns : ℕ) (events : List Event) : Type 0 where
  pub drain : ℕ
  pub asked : List (Option ℕ)
  pub events_are : events ≡ map (asked_at host drain) asked
  pub turns_are : turns_in asked ≡ turns
  pub some : 0 < turns

-- the events begin with this many turns of a host, and `rest` follows
pub record BeginsWith (host turns : ℕ) (events rest : List Event) : Type 0 where
  pub run : List Event
  pub are : AreTurns host turns run
  pub split : events ≡ run ++ rest

-- the events begin with this piece, and `rest` follows
abbrev pub IsPiece : Piece → (events rest : List Event) → Type 0
IsPiece (piece.Event e) events rest = events ≡ e ∷ rest
IsPiece (piece.Turns t) events rest = BeginsWith t.host t.turns events rest
